-- A run over a piece of the stream: it stops after each event that isn't nothing and says how many bytes it took, 0 with 32 or 35.
use Rattle.std.specs.Prelude.{◌≡◌, Bool, true, false, cond, List, [], ◌∷◌, ℕ, ◌+◌, length, ltb}
use Rattle.frame.specs.Judge.{Told, nothing, frame, refused, refused_at}
use Rattle.receiver.specs.declared.Receiver.{Receiver}
use Rattle.receiver.specs.declared.Receiver.TheVariants.{Waiting, Open}
use Rattle.receiver.specs.declared.Ran.{Ran}
use Rattle.receiver.specs.Step.{After, beyond, step, paper}

abbrev pub is_nothing : Told → Bool
is_nothing nothing = true
is_nothing (frame h n) = false
is_nothing (refused k) = false
is_nothing (refused_at k p) = false

-- how many characters a receiver holds
abbrev pub count_of : Receiver → ℕ
count_of Waiting = 0
count_of (Open n) = n

-- what a run leaves: as after a step, with the number of bytes taken, and the count that the receiver had when the event's byte came
-- (0 where nothing came, and with 32 and 35)
pub record Run : Type 0 where
  pub next : Receiver
  pub store : List ℕ
  pub told : Told
  pub taken : ℕ
  pub held : ℕ

abbrev pub ends : Receiver → List ℕ → Told → Run
ends r store told = record { next = r; store = store; told = told; taken = 0; held = 0 }

abbrev pub stops : ℕ → After → Run
stops held a = record { next = a.next; store = a.store; told = a.told; taken = 1; held = held }

-- the same with k bytes taken before
abbrev pub later : ℕ → Run → Run
later k r = record { next = r.next; store = r.store; told = r.told; taken = k + r.taken; held = r.held }

-- step by step, until an event that isn't nothing or the end of the piece
unfoldable pub stepping : Receiver → List ℕ → List ℕ → Run
stepping r store [] = ends r store nothing
stepping r store (b ∷ bs) =
    let a = step r store b in
    cond (is_nothing a.told) (later 1 (stepping a.next a.store bs)) (stops (count_of r) a)

-- call refusals come first, also for an empty piece
unfoldable pub run : Receiver → List ℕ → List ℕ → Run
run r store piece =
    cond (ltb (length store) 4110) (ends r store (refused 32))
    (cond (beyond r) (ends r store (refused 35))
    (stepping r store piece))

abbrev pub run_of : Ran → List ℕ → Run
run_of answer store' = record { next = answer.next; store = store'; told = paper answer.event; taken = answer.taken; held = answer.held }

-- the contract of a run: its answer and the store then
abbrev pub Runs : Receiver → List ℕ → List ℕ → Ran → List ℕ → Type 0
Runs r store piece answer store' = run_of answer store' ≡ run r store piece
