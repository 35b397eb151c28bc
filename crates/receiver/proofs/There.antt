-- There are calls: what a step or a run tells, an event says; so any call can follow any others, and some calls take the whole of a stream.
use Rattle.std.proofs.Common.{◌≡◌, refl, sym, subst, Bool, true, false, List, [], ◌∷◌, ◌++◌, ℕ, zero, suc, arith, length, get_or, take, drop, length-append, drop-drop, ltb, Option, Some, None}
use Rattle.refusal.specs.declared.Refusal.{Refusal}
use Rattle.refusal.specs.declared.Refusal.TheVariants.{TooLong, SoiInside, TooShort, LowerCase, LchksumDiffers, LenidOdd, CountDiffers, ChksumDiffers, NoHexDigit, BufferTooShort, ReceiverBeyondStore}
use Rattle.refusal.specs.Number.{number}
use Rattle.buffer.proofs.Lists.{by_cond}
use Rattle.frame.specs.declared.Header.{Header}
use Rattle.hex_chars.specs.Hex.{all_hex, bad_place, is_lower}
use Rattle.frame.specs.Judge.{Told, nothing, frame, refused, refused_at, carries_place, need, need_hex, judge, header, lenid}
use Rattle.receiver.specs.declared.Receiver.{Receiver}
use Rattle.receiver.specs.declared.Receiver.TheVariants.{Waiting, Open}
use Rattle.frame.specs.Answered.{Judged, framed_by, refused_by, refused_at_by}
use Rattle.receiver.specs.Step.{Kind, soi, cr, other, kind, After, step_by, beyond, step, paper}
use Rattle.receiver.specs.Run.{Run, is_nothing, stepping, run}
use Rattle.receiver.specs.Calls.{Asked, to_run, to_step, Can, Caller, Calls, Offered, taken, Call, ran, stepped, asked, Keeps}
use Rattle.receiver.specs.Demand.{Demand3}

-- ---- whatever is told

-- what holds of nothing, of frames, and of refusals, each with a place where its number carries one
pub record Holds (P : Told → Type 0) : Type 0 where
  pub quiet : P nothing
  pub whole : (h : Header) (n : ℕ) → P (frame h n)
  pub plain : (r : Refusal) → carries_place (number r) ≡ false → P (refused (number r))
  pub placed : (r : Refusal) → carries_place (number r) ≡ true → (p : ℕ) → P (refused_at (number r) p)

-- holds of whatever is told
module _ (P : Told → Type 0) (h : Holds P) where
  need-holds : (test : Bool) (r : Refusal) (rest : Told) → carries_place (number r) ≡ false → P rest → P (need test (number r) rest)
  unfolding need
  need-holds true r rest e s = s
  need-holds false r rest e s = h.plain r e

  hex-holds : (c : List ℕ) (rest : Told) → P rest → P (need_hex c rest)
  hex-holds c rest s =
      by_cond P (all_hex c) (λ _. s)
      (λ _. by_cond (λ (n : ℕ). P (refused_at n (bad_place c))) (is_lower (get_or c (bad_place c) 0)) (λ _. h.placed LowerCase refl (bad_place c)) (λ _. h.placed NoHexDigit refl (bad_place c)))

  pub judge-holds : (c : List ℕ) → P (judge c)
  unfolding judge
  judge-holds c =
      need-holds _ TooLong _ refl (need-holds _ TooShort _ refl (hex-holds c _
      (need-holds _ LchksumDiffers _ refl (need-holds _ LenidOdd _ refl (need-holds _ CountDiffers _ refl (need-holds _ ChksumDiffers _ refl (h.whole (header c) (lenid c))))))))

  kind-holds : (k : Kind) (r : Receiver) (store : List ℕ) (b : ℕ) → P (step_by k r store b).told
  unfolding step_by
  kind-holds soi Waiting store b = h.quiet
  kind-holds cr Waiting store b = h.quiet
  kind-holds other Waiting store b = h.quiet
  kind-holds soi (Open n) store b = h.plain SoiInside refl
  kind-holds cr (Open n) store b = judge-holds (take n store)
  kind-holds other (Open n) store b = by_cond (λ (a : After). P a.told) (ltb n 4110) (λ t. h.quiet) (λ t. h.plain TooLong refl)

  pub step-holds : (r : Receiver) (store : List ℕ) (b : ℕ) → P (step r store b).told
  unfolding step
  step-holds r store b =
      by_cond (λ (a : After). P a.told) (ltb (length store) 4110) (λ t. h.plain BufferTooShort refl)
      (λ t. by_cond (λ (a : After). P a.told) (beyond r) (λ u. h.plain ReceiverBeyondStore refl) (λ u. kind-holds (kind b) r store b))

  stepping-holds : (piece : List ℕ) (r : Receiver) (store : List ℕ) → P (stepping r store piece).told
  unfolding stepping
  stepping-holds [] r store = h.quiet
  stepping-holds (b ∷ bs) r store =
      let a = step r store b in
      let next = stepping-holds bs a.next a.store in
      by_cond (λ (x : Run). P x.told) (is_nothing a.told) (λ t. next) (λ t. step-holds r store b)

  pub run_holds : (r : Receiver) (store piece : List ℕ) → P (run r store piece).told
  unfolding run
  run_holds r store piece =
      by_cond (λ (a : Run). P a.told) (ltb (length store) 4110) (λ t. h.plain BufferTooShort refl)
      (λ t. by_cond (λ (a : Run). P a.told) (beyond r) (λ u. h.plain ReceiverBeyondStore refl) (λ u. stepping-holds piece r store))

-- an event says it
abbrev Said : Told → Type 0
Said t = (e : Option Judged) × (paper e ≡ t)

said : Holds Said
said = record { quiet = (None, refl); whole = λ h n. (Some (framed_by h n), refl); plain = λ r e. (Some (refused_by r), refl); placed = λ r e p. (Some (refused_at_by r p), refl) }

-- ---- a call for what is asked

pub follows : (r : Receiver) (store stream : List ℕ) (a : Asked) → (c : Call) × (asked c ≡ a) × Keeps r store stream c
follows r store stream (to_run most) =
    let a = run r store (take most stream) in
    let s = run_holds Said said r store (take most stream) in (
      ran most (record { next = a.next; event = s.0; taken = a.taken; held = a.held }) a.store,
      refl,
      λ i. record { next = a.next; store = a.store; told = s.1 i; taken = a.taken; held = a.held },
    )
follows r store stream to_step =
    let a = step r store (get_or stream 0 0) in
    let s = step-holds Said said r store (get_or stream 0 0) in (
      stepped (record { next = a.next; event = s.0 }) a.store,
      refl,
      λ i. record { next = a.next; store = a.store; told = s.1 i },
    )

-- of a caller that has a call for whatever is asked
module _ (caller : Caller) (follows : (r : Receiver) (store stream : List ℕ) (a : Asked) → (c : caller.Call) × (caller.asked c ≡ a) × caller.Keeps r store stream c) where
  pub any_call : (cs : List caller.Call) (r : Receiver) (store stream : List ℕ) → Calls caller r store stream cs → (a : Asked) → Can a (drop (taken caller cs) stream)
      → (c : caller.Call) × (caller.asked c ≡ a) × Calls caller r store stream (cs ++ c ∷ [])
  unfolding Calls taken
  any_call [] r store stream h a can = let c = follows r store stream a in (c.0, c.1, (subst (λ (x : Asked). Can x stream) (sym c.1) can, c.2, tt))
  any_call (c ∷ cs) r store stream h a can =
      let k = (caller.leaves c).taken in
      let next =
      any_call cs (caller.leaves c).next (caller.leaves c).store (drop k stream) h.2 a (subst (Can a) (sym (drop-drop (taken caller cs) k stream)) can) in
      (next.0, next.1, (h.0, h.1, next.2))

-- ---- calls that take the whole of a stream: as many runs over one byte as it has bytes

module _ (caller : Caller) (store : List ℕ) (d : Demand3 caller store) (stream : List ℕ) where
  ones : (n : ℕ) → (cs : List caller.Call) × Calls caller Waiting store stream cs × Offered caller cs × (length cs ≡ n)
  unfolding Calls Offered
  ones zero = ([], tt, tt, refl)
  ones (suc n) =
      let before = ones n in
      let cs = before.0 in
      let c = d.any_call stream cs before.1 (to_run 1) tt in
      let offers : Offered caller (c.0 ∷ []) = rw c.1 (omega arith, tt) in
      (cs ++ c.0 ∷ [], c.2, join cs (c.0 ∷ []) before.2 offers, omega (arith, length-append cs (c.0 ∷ []), before.3))
    where
      join : (cs ds : List caller.Call) → Offered caller cs → Offered caller ds → Offered caller (cs ++ ds)
      join [] ds o p = p
      join (c ∷ cs) ds o p = (o.0, join cs ds o.1 p)

  pub calls-there : (cs : List caller.Call) × Calls caller Waiting store stream cs × (taken caller cs ≡ length stream)
  calls-there = let o = ones (length stream) in (o.0, o.1, d.all_taken stream o.0 o.1 o.2 (omega (arith, o.3)))
