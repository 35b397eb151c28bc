-- The calls that C has for `run` and `step`.
use Rattle.std.specs.Prelude.{◌≡◌, cond, List, ℕ, get_or, take, eqb}
use Rattle.frame.specs.Judge.{Told, nothing, frame, refused, refused_at, carries_place}
use Rattle.receiver.specs.declared.Receiver.{Receiver}
use Rattle.receiver.specs.Step.{step}
use Rattle.receiver.specs.Run.{Run, run}
use Rattle.receiver.specs.Calls.{Asked, to_run, to_step, Caller}
use Rattle.flat.specs.declared.FlatEvent.{FlatEvent}
use Rattle.flat.specs.declared.FlatReceiver.{FlatReceiver}
use Rattle.flat.specs.declared.FlatStepped.{FlatStepped}
use Rattle.flat.specs.declared.FlatRan.{FlatRan}
use Rattle.flat.specs.Flat.{receiver_of, stepped_of, ran_of}

-- the contracts: the answer and the store then
abbrev pub FlatSteps : FlatReceiver → List ℕ → ℕ → FlatStepped → List ℕ → Type 0
FlatSteps r store b answer store' = (answer ≡ stepped_of (step (receiver_of r) store b)) × (store' ≡ (step (receiver_of r) store b).store)

abbrev pub FlatRuns : FlatReceiver → List ℕ → List ℕ → FlatRan → List ℕ → Type 0
FlatRuns r store piece answer store' = (answer ≡ ran_of (run (receiver_of r) store piece)) × (store' ≡ (run (receiver_of r) store piece).store)

-- what the numbers of an event say: with 4 and 9 the place too
abbrev pub told_of : FlatEvent → Told
told_of e =
    cond (eqb e.kind 0) nothing
    (cond (eqb e.kind 1) (frame (record { ver = e.ver; adr = e.adr; cid1 = e.cid1; cid2 = e.cid2 }) e.lenid)
    (cond (carries_place e.number) (refused_at e.number e.place) (refused e.number)))

-- a call: the receiver that it is given, and the rest as of `run` and `step`
pub data FlatCall : Type 0 where
  ran : FlatReceiver → ℕ → FlatRan → List ℕ → FlatCall
  stepped : FlatReceiver → FlatStepped → List ℕ → FlatCall

abbrev pub asked : FlatCall → Asked
asked (ran r most answer store) = to_run most
asked (stepped r answer store) = to_step

abbrev pub leaves : FlatCall → Run
leaves (ran r most answer store) = record { next = receiver_of answer.next; store = store; told = told_of answer.event; taken = answer.taken; held = answer.held }
leaves (stepped r answer store) = record { next = receiver_of answer.next; store = store; told = told_of answer.event; taken = 1; held = 0 }

abbrev pub Keeps : Receiver → List ℕ → List ℕ → FlatCall → Type 0
Keeps r store stream (ran r' most answer store') = (receiver_of r' ≡ r) × FlatRuns r' store (take most stream) answer store'
Keeps r store stream (stepped r' answer store') = (receiver_of r' ≡ r) × FlatSteps r' store (get_or stream 0 0) answer store'

abbrev pub fromC : Caller
fromC = record { Call = FlatCall; asked = asked; leaves = leaves; Keeps = Keeps }
