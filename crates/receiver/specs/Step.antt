-- The receiver: waiting, or open with a count of characters, which stand at the front of a lent store. Each byte gives one event.
use Rattle.std.specs.Prelude.{◌≡◌, Bool, false, cond, List, ℕ, suc, length, take, set, ltb, eqb, Option, Some, None, Result}
use Rattle.frame.specs.Frame.{SOI, CR}
use Rattle.frame.specs.declared.Frame.{Frame}
use Rattle.frame.specs.declared.Fault.{Fault}
use Rattle.frame.specs.Judge.{Told, nothing, refused, judge, paper as paper_judged}
use Rattle.receiver.specs.declared.Receiver.{Receiver}
use Rattle.receiver.specs.declared.Receiver.TheVariants.{Waiting, Open}
use Rattle.receiver.specs.declared.Stepped.{Stepped}

-- what a byte is to the receiver
pub data Kind : Type 0 where
  soi cr other : Kind

unfoldable pub kind : ℕ → Kind
kind b = cond (eqb b SOI) soi (cond (eqb b CR) cr other)

-- what a byte gives: the next receiver, the store then, and what is told
pub record After : Type 0 where
  pub next : Receiver
  pub store : List ℕ
  pub told : Told

abbrev pub gives : Receiver → List ℕ → Told → After
gives next store told = record { next = next; store = store; told = told }

-- Waiting: SOI opens with count 0, any other byte gives nothing.
-- Open, SOI: refusal 2, open again with count 0. Open, CR: the characters are judged, then waiting.
-- Open, any other byte: stored at place count, count one more; where count is already 4,110: refusal 1, nothing stored, waiting.
unfoldable pub step_by : Kind → Receiver → List ℕ → ℕ → After
step_by soi Waiting store b = gives (Open 0) store nothing
step_by cr Waiting store b = gives Waiting store nothing
step_by other Waiting store b = gives Waiting store nothing
step_by soi (Open n) store b = gives (Open 0) store (refused 2)
step_by cr (Open n) store b = gives Waiting store (judge (take n store))
step_by other (Open n) store b = cond (ltb n 4110) (gives (Open (suc n)) (set store n b) nothing) (gives Waiting store (refused 1))

-- a count above 4,110
abbrev pub beyond : Receiver → Bool
beyond Waiting = false
beyond (Open n) = ltb 4110 n

-- call refusals come first, 32 and then 35; after them the receiver comes back as it went in
unfoldable pub step : Receiver → List ℕ → ℕ → After
step r store b =
    cond (ltb (length store) 4110) (gives r store (refused 32))
    (cond (beyond r) (gives r store (refused 35))
    (step_by (kind b) r store b))

-- the paper's number and values of an event
abbrev pub paper : Option (Result Frame Fault) → Told
paper None = nothing
paper (Some judged) = paper_judged judged

-- the contract of a step: its answer and the store then
abbrev pub Steps : Receiver → List ℕ → ℕ → Stepped → List ℕ → Type 0
Steps r store b answer store' = gives answer.next store' (paper answer.event) ≡ step r store b
