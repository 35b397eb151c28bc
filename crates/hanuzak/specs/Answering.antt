-- The stand-in over a lent table: what it answers, its buffer then, and the table then.
use Rattle.std.specs.Prelude.{◌≡◌, List, ℕ, length}
use Rattle.record.specs.declared.Module.{Module}
use Rattle.table.specs.declared.Station.{Station}
use Rattle.table.specs.Rule.{rule}
use Rattle.standin.specs.Answer.{Left, answer, off_at}
use Rattle.flat.specs.declared.FlatAnswered.{FlatAnswered}
use Rattle.flat.specs.Flat.{answered_of}

-- the answer, the table and the buffer
pub record Then : Type 0 where
  pub answered : FlatAnswered
  pub table : List Module
  pub out : List ℕ

-- the record that goes off does; the count is the place of none
abbrev pub then_of : List Module → Left → Then
then_of ms left = record { answered = answered_of left.outcome; table = off_at left.off ms; out = left.out }

unfoldable pub answering : Station → List Module → List ℕ → List ℕ → Then
answering station ms stretch out = then_of ms (answer (rule ms) (length ms) station ms stretch out)

-- the contract of the stand-in over a lent table
abbrev pub Leaves : Then → FlatAnswered → List Module → List ℕ → Type 0
Leaves left r table out = record { answered = r; table = table; out = out } ≡ left
