-- Demand 3 for C, and what is told to it: the numbers say what the enums do, so its calls take bytes as `run` and `step` do.
use Rattle.std.proofs.Common.{◌≡◌, refl, sym, ap, ◌∙◌, subst, ◌↔◌, List, [], ◌∷◌, ℕ, ◌≤◌, ◌<◌, arith, length, get_or, take}
use Rattle.frame.specs.Judge.{Told, nothing, refused_at, judge}
use Rattle.frame.specs.Place.{Placed}
use Rattle.frame.proofs.Places.{placed}
use Rattle.receiver.specs.declared.Receiver.{Receiver}
use Rattle.receiver.specs.declared.Receiver.TheVariants.{Waiting, Open}
use Rattle.receiver.specs.Step.{step}
use Rattle.receiver.specs.Run.{run}
use Rattle.receiver.specs.Pass.{Fits}
use Rattle.receiver.specs.Calls.{Asked, to_run, to_step, Can, Offers}
use Rattle.receiver.specs.Demand.{out, Demand3}
use Rattle.receiver.specs.Damage.{LostOrDoubled, inside, ToldOf, Exchanged}
use Rattle.receiver.specs.Place.{PlacesTold}
use Rattle.receiver.proofs.Pieces.{Took, took_one, took-ran, run-moves}
use Rattle.receiver.proofs.There.{Holds, judge-holds, step-holds, run_holds}
use Rattle.receiver.proofs.Demand.{mute, demand-of, lost-or-doubled-of}
use Rattle.receiver.proofs.Damage.{silent, told_of_lem}
use Rattle.receiver.proofs.Places.{places_of}
use Rattle.receiver.proofs.Exchanged.{exchanged-of}
use Rattle.flat.specs.declared.FlatEvent.{FlatEvent}
use Rattle.flat.specs.declared.FlatStepped.{FlatStepped}
use Rattle.flat.specs.declared.FlatRan.{FlatRan}
use Rattle.flat.specs.Flat.{event_of, flat_receiver, receiver_of, stepped_of, ran_of}
use Rattle.flat.specs.Calls.{told_of, FlatCall, ran, stepped, asked, leaves, Keeps, fromC}

pub receiver-back : (r : Receiver) → receiver_of (flat_receiver r) ≡ r
receiver-back Waiting = refl
receiver-back (Open n) = refl

-- what is told is what its numbers say, since 4 and 9 have a place, and no others
abbrev Back : Told → Type 0
Back t = told_of (event_of t) ≡ t

back : Holds Back
back = record { quiet = refl; whole = λ h n. refl; plain = λ r e. rw e; placed = λ r e p. rw e }

-- so of the judge's answer: the first character that isn't hex, where its numbers say one
pub flat-judge-placed : (c : List ℕ) (e : FlatEvent) → e ≡ event_of (judge c) → (k p : ℕ) → (told_of e ≡ refused_at k p) ↔ Placed c k p
flat-judge-placed c e is k p =
    let said = ap told_of is ∙ judge-holds Back back c in
    let b = placed k p c in
    (λ x. b.0 (sym said ∙ x), λ x. said ∙ b.1 x)

module _ {A : Type 0} (note : ℕ → Told → List ℕ → List A) (mute : (n : ℕ) (store : List ℕ) → note n nothing store ≡ []) where
  takes : (r : Receiver) (store stream : List ℕ) (c : FlatCall) → Fits r store → Can (asked c) stream → Keeps r store stream c → Took note mute r store stream (leaves c)
  takes r store stream (ran r' most answer store') f can (q, (p, s)) =
      let a = run (receiver_of r') store (take most stream) in
      let g = took-ran note mute (receiver_of r') store stream most (subst (λ (x : Receiver). Fits x store) (sym q) f) in
      let next : a.next ≡ receiver_of answer.next = sym (ap (λ (x : FlatRan). receiver_of x.next) p ∙ receiver-back a.next) in
      let told : a.told ≡ told_of answer.event = sym (ap (λ (x : FlatRan). told_of x.event) p ∙ run_holds Back back (receiver_of r') store (take most stream)) in
      let taken : a.taken ≡ answer.taken = sym (ap (λ (x : FlatRan). x.taken) p) in
      let held : a.held ≡ answer.held = sym (ap (λ (x : FlatRan). x.held) p) in
      let same : a ≡ leaves (ran r' most answer store') = λ i. record { next = next i; store = sym s i; told = told i; taken = taken i; held = held i } in
      subst (λ (x : Receiver). Took note mute x store stream (leaves (ran r' most answer store'))) q
      (subst (Took note mute (receiver_of r') store stream) same g)
  takes r store [] (stepped r' answer store') f can (q, (p, s)) = absurd (omega arith)
  takes r store (b ∷ bs) (stepped r' answer store') f can (q, (p, s)) =
      let a = step (receiver_of r') store b in
      let next : a.next ≡ receiver_of answer.next = sym (ap (λ (x : FlatStepped). receiver_of x.next) p ∙ receiver-back a.next) in
      let told : a.told ≡ told_of answer.event = sym (ap (λ (x : FlatStepped). told_of x.event) p ∙ step-holds Back back (receiver_of r') store b) in
      let same : record { next = a.next; store = a.store; told = a.told; taken = 1; held = 0 } ≡ leaves (stepped r' answer store') =
      λ i. record { next = next i; store = sym s i; told = told i; taken = 1; held = 0 } in
      subst (λ (x : Receiver). Took note mute x store (b ∷ bs) (leaves (stepped r' answer store'))) q
      (subst (Took note mute (receiver_of r') store (b ∷ bs)) same (took_one note mute b bs (receiver_of r') store 0 a refl))

moves : (r : Receiver) (store stream : List ℕ) (c : FlatCall) → Fits r store → Keeps r store stream c → Offers (asked c) → 0 < length stream → 0 < (leaves c).taken
moves r store stream (ran r' most answer store') f (q, (p, s)) o h =
    subst (λ (n : ℕ). 0 < n) (sym (ap (λ (x : FlatRan). x.taken) p)) (run-moves (receiver_of r') store stream most (subst (λ (x : Receiver). Fits x store) (sym q) f) o h)
moves r store stream (stepped r' answer store') f e o h = omega arith

follows : (r : Receiver) (store stream : List ℕ) (a : Asked) → (c : FlatCall) × (asked c ≡ a) × Keeps r store stream c
follows r store stream (to_run most) =
    let a = run (receiver_of (flat_receiver r)) store (take most stream) in
    (ran (flat_receiver r) most (ran_of a) a.store, refl, (receiver-back r, (refl, refl)))
follows r store stream to_step =
    let a = step (receiver_of (flat_receiver r)) store (get_or stream 0 0) in
    (stepped (flat_receiver r) (stepped_of a) a.store, refl, (receiver-back r, (refl, refl)))

-- for C the same: a fresh receiver is any that means waiting, as the one of `hanuzak_receiver_new`
pub flat-demand-3 : (store : List ℕ) → 4110 ≤ length store → Demand3 fromC store
flat-demand-3 = demand-of fromC (takes out mute) moves follows

pub flat-lost-or-doubled : (store : List ℕ) → 4110 ≤ length store → LostOrDoubled fromC store
flat-lost-or-doubled store room = lost-or-doubled-of fromC store (flat-demand-3 store room)

pub flat-damage-told : (store : List ℕ) → 4110 ≤ length store → ToldOf fromC store
flat-damage-told = told_of_lem fromC (λ a b. takes (inside a b) (silent a b))

pub flat-places-told : (store : List ℕ) → 4110 ≤ length store → PlacesTold fromC store
flat-places-told = places_of fromC (λ a b. takes (inside a b) (silent a b))

pub flat-exchanged : (store : List ℕ) → 4110 ≤ length store → Exchanged fromC store
flat-exchanged store room = exchanged-of fromC store (flat-demand-3 store room)
