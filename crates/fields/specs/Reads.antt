-- What a reader's answer says in the paper's numbers: of the next part of INFO, the value or the refusal's number, with the bytes that are left;
-- of a whole INFO, the value or the refusal's number.
use Rattle.std.specs.Prelude.{List, ℕ, Result, Ok, Err}
use Rattle.refusal.specs.Number.{number}
use Rattle.refusal.specs.declared.Refusal.{Refusal}
use Rattle.codec.specs.Codec.{Got, got, no}
use Rattle.codec.specs.Whole.{Told, told, refuse}

abbrev pub found : {A : Type 0} → Result A Refusal → List ℕ → Got A
found (Ok a) rest = got a rest
found (Err r) rest = no (number r) rest

abbrev pub answered : {A : Type 0} → Result A Refusal → Told A
answered (Ok a) = told a
answered (Err r) = refuse (number r)
