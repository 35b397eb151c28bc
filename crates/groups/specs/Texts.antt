-- Nobody has to believe this file: it has words for contracts of private functions. The bytes of a group, a member after the other.
use Rattle.std.specs.Prelude.{cond, List, [], ◌∷◌, ◌++◌, ℕ}
use Rattle.codec.specs.Codec.{Codec}
use Rattle.record.specs.declared.Module.{Module}
use Rattle.table.specs.Table.{is_on}

-- a part's text
abbrev pub part_text : {A : Type 0} → Codec A → (Module → A) → Module → List ℕ
part_text c part m = c.put (part m)

unfoldable pub text_on : (Module → List ℕ) → Module → List ℕ
text_on text m = cond (is_on m) (text m) []

unfoldable pub text_of_all : (Module → List ℕ) → List Module → List ℕ
text_of_all text [] = []
text_of_all text (m ∷ ms) = text_on text m ++ text_of_all text ms
