-- A text as the codes of its characters.
use Rattle.std.specs.Prelude.{List, ℕ, codes}
use Prim.Native.String.{String}

abbrev pub ascii : String → List ℕ
ascii text = codes text
