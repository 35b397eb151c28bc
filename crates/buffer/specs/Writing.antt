-- What a writer answers, and what it leaves in its lent buffer: "each changes only the bytes it writes".
use Rattle.std.specs.Prelude.{◌≡◌, Bool, cond, List, ◌++◌, ℕ, length, drop, leb, Result, Ok, Err}
use Rattle.refusal.specs.Number.{number}
use Rattle.refusal.specs.declared.Refusal.{Refusal}

-- so many bytes were written, or the refusal with this number
pub data Outcome : Type 0 where
  wrote : ℕ → Outcome
  refused : ℕ → Outcome

-- the paper's number and values of a writer's answer: how many bytes it wrote, or its refusal
abbrev pub paper : Result ℕ Refusal → Outcome
paper (Ok n) = wrote n
paper (Err r) = refused (number r)

-- how many bytes were written: none with a refusal
abbrev pub length_written : Outcome → ℕ
length_written (wrote n) = n
length_written (refused k) = 0

-- the outcome, and the buffer then
pub record Left : Type 0 where
  pub outcome : Outcome
  pub out : List ℕ

abbrev pub leaves : Outcome → List ℕ → Left
leaves o out = record { outcome = o; out = out }

-- the refusal with number n, and the buffer as it was, unless the test passes
abbrev pub need : Bool → ℕ → List ℕ → Left → Left
need test n out rest = cond test rest (leaves (refused n) out)

-- a writer of a text: first the refusal `fault` where there is none to write, then 32 where the buffer is shorter than the text;
-- otherwise the text stands at the front of the buffer, and the rest stays
unfoldable pub writing : ℕ → Bool → List ℕ → List ℕ → Left
writing fault fine text out =
    need fine fault out
    (need (leb (length text) (length out)) 32 out
    (leaves (wrote (length text)) (text ++ drop (length text) out)))

-- the contract of a writer: its answer and its buffer are these
abbrev pub Writes : Left → Result ℕ Refusal → List ℕ → Type 0
Writes left answer out = leaves (paper answer) out ≡ left
