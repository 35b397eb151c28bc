-- Calls one after the other, each over the next bytes of a stream: of `run` and `step`, or of what another caller has for them.
use Rattle.std.specs.Prelude.{List, [], ◌∷◌, ◌++◌, ℕ, ◌+◌, ◌<◌, length, get_or, take, drop}
use Rattle.frame.specs.Judge.{Told}
use Rattle.receiver.specs.declared.Receiver.{Receiver}
use Rattle.receiver.specs.declared.Ran.{Ran}
use Rattle.receiver.specs.declared.Stepped.{Stepped}
use Rattle.receiver.specs.Step.{gives, paper, Steps}
use Rattle.receiver.specs.Run.{Run, stops, run_of, Runs}

-- what is asked: a run over the next bytes, so many at most, or a step over the next byte
pub data Asked : Type 0 where
  to_run : ℕ → Asked
  to_step : Asked

-- whether it can be asked where these bytes are left: a step needs one
abbrev pub Can : Asked → List ℕ → Type 0
Can (to_run most) left = Unit {0}
Can to_step left = 0 < length left

-- whether it is given a byte at least, where one is left
abbrev pub Offers : Asked → Type 0
Offers (to_run most) = 0 < most
Offers to_step = Unit {0}

-- what a caller has: calls, what each asks and what it leaves, and when it keeps its function's contract, from a receiver and a store on over the bytes that are left of a stream
pub record Caller : Type 1 where
  pub Call : Type 0
  pub asked : Call → Asked
  pub leaves : Call → Run
  pub Keeps : Receiver → List ℕ → List ℕ → Call → Type 0

-- ---- one after the other

module _ (caller : Caller) where
  -- each call has the receiver and the store that the one before left, and begins behind the bytes that were taken
  unfoldable pub Calls : Receiver → List ℕ → List ℕ → List caller.Call → Type 0
  Calls r store stream [] = Unit {0}
  Calls r store stream (c ∷ cs) =
      let a = caller.leaves c in
      Can (caller.asked c) stream × caller.Keeps r store stream c × Calls a.next a.store (drop a.taken stream) cs

  unfoldable pub Offered : List caller.Call → Type 0
  Offered [] = Unit {0}
  Offered (c ∷ cs) = Offers (caller.asked c) × Offered cs

  -- how many bytes the calls took
  unfoldable pub taken : List caller.Call → ℕ
  taken [] = 0
  taken (c ∷ cs) = (caller.leaves c).taken + taken cs

  -- what is noted of the calls, in order: of how many bytes were taken, n of them before, what is told, and the store then
  unfoldable pub told : {A : Type 0} → (ℕ → Told → List ℕ → List A) → ℕ → List caller.Call → List A
  told note n [] = []
  told note n (c ∷ cs) = let a = caller.leaves c in note (n + a.taken) a.told a.store ++ told note (n + a.taken) cs

-- ---- the calls of this crate

-- a call of `run`, over so many bytes at most, or of `step`: its answer, and the store then
pub data Call : Type 0 where
  ran : ℕ → Ran → List ℕ → Call
  stepped : Stepped → List ℕ → Call

abbrev pub asked : Call → Asked
asked (ran most answer store) = to_run most
asked (stepped answer store) = to_step

-- what a call leaves: a step takes one byte
abbrev pub leaves : Call → Run
leaves (ran most answer store) = run_of answer store
leaves (stepped answer store) = stops 0 (gives answer.next store (paper answer.event))

abbrev pub Keeps : Receiver → List ℕ → List ℕ → Call → Type 0
Keeps r store stream (ran most answer store') = Runs r store (take most stream) answer store'
Keeps r store stream (stepped answer store') = Steps r store (get_or stream 0 0) answer store'

abbrev pub here : Caller
here = record { Call = Call; asked = asked; leaves = leaves; Keeps = Keeps }
