-- The contracts allow one answer only, and a call leaves and tells what stepping over the bytes it took does: so any cutting of a stream gives the same.
use Rattle.std.proofs.Common.{◌≡◌, refl, sym, ap, ◌∙◌, subst, Bool, true, false, cond, List, [], ◌∷◌, ◌++◌, append-nil, append_assoc, ℕ, zero, suc, ◌+◌, ◌≤◌, ◌<◌, add-one, one-add, add-zero, arith, length, take, drop, length-drop, length-take, take-take, take-add, length-take-le}
use Rattle.std.proofs.Math.Seq.{drop-nil}
use Rattle.buffer.proofs.Lists.{by_cond}
use Rattle.frame.specs.Judge.{Told, nothing, frame, refused, refused_at}
use Rattle.receiver.specs.declared.Receiver.{Receiver}
use Rattle.receiver.specs.declared.Stepped.{Stepped}
use Rattle.receiver.specs.declared.Ran.{Ran}
use Rattle.receiver.specs.Step.{After, gives, step, paper, Steps}
use Rattle.receiver.specs.Run.{is_nothing, count_of, Run, later, stops, stepping, run, Runs}
use Rattle.receiver.specs.Pass.{Fits}
use Rattle.receiver.specs.Stream.{after, along}
use Rattle.receiver.specs.Calls.{Can, Offers, Caller, Calls, Offered, taken, told, Call, ran, stepped, asked, leaves, Keeps}
use Rattle.receiver.proofs.Events.{paper-injective}
use Rattle.receiver.proofs.Receive.{after-fits}
use Rattle.receiver.proofs.Running.{run-within-is}

-- ---- one answer for one input

pub steps-one : (r : Receiver) (store : List ℕ) (b : ℕ) (s t : Stepped) (store' store'' : List ℕ) → Steps r store b s store' → Steps r store b t store''
    → (s ≡ t) × (store' ≡ store'')
steps-one r store b s t store' store'' p q =
    let e = p ∙ sym q in
    let v : s.event ≡ t.event = paper-injective s.event t.event (ap (λ (a : After). a.told) e) in
    (λ i. record { next = (e i).next; event = v i }, ap (λ (a : After). a.store) e)

pub runs-one : (r : Receiver) (store piece : List ℕ) (s t : Ran) (store' store'' : List ℕ) → Runs r store piece s store' → Runs r store piece t store''
    → (s ≡ t) × (store' ≡ store'')
runs-one r store piece s t store' store'' p q =
    let e = p ∙ sym q in
    let v : s.event ≡ t.event = paper-injective s.event t.event (ap (λ (a : Run). a.told) e) in
    (λ i. record { next = (e i).next; event = v i; taken = (e i).taken; held = (e i).held }, ap (λ (a : Run). a.store) e)

-- ---- along a stream: whatever is noted of what is told, and nothing where nothing is told

module _ {A : Type 0} (note : ℕ → Told → List ℕ → List A) (mute : (n : ℕ) (store : List ℕ) → note n nothing store ≡ []) where
  -- what comes after a cut goes on from the receiver and the store before it
  pub along-join : (s t : List ℕ) (n : ℕ) (r : Receiver) (store : List ℕ)
      → along note n r store (s ++ t) ≡ along note n r store s ++ along note (n + length s) (after r store s).next (after r store s).store t
  unfolding along after
  along-join [] t n r store = ap (λ (m : ℕ). along note m r store t) (sym (add-zero n))
  along-join (b ∷ s) t n r store =
      let a = step r store b in
      let z = after a.next a.store s in
      let here : List A = note (suc n) a.told a.store in
      let first : List A = along note (suc n) a.next a.store s in
      ap (λ (l : List A). here ++ l) (along-join s t (suc n) a.next a.store)
      ∙ sym (append_assoc here first (along note (suc n + length s) z.next z.store t))
      ∙ ap (λ (m : ℕ). (here ++ first) ++ along note m z.next z.store t) (let e : suc n + length s ≡ n + suc (length s) = omega arith in e)

  -- bytes were taken as by stepping over them, and only the last of them tells something
  pub record Took (r : Receiver) (store stream : List ℕ) (a : Run) : Type 0 where
    pub few : a.taken ≤ length stream
    pub left : after r store (take a.taken stream) ≡ gives a.next a.store nothing
    pub said : (n : ℕ) → along note n r store (take a.taken stream) ≡ note (n + a.taken) a.told a.store

  -- a byte
  pub took_one : (b : ℕ) (bs : List ℕ) (r : Receiver) (store : List ℕ) (held : ℕ) (a : After) → a ≡ step r store b → Took r store (b ∷ bs) (stops held a)
  unfolding along after
  took_one b bs r store held a e =
      record {
        few = omega arith;
        left = ap (λ (x : After). gives x.next x.store nothing) (sym e);
        said = λ n. append-nil (note (suc n) (step r store b).told (step r store b).store) ∙ (λ i. note (sym (add-one n) i) (sym e i).told (sym e i).store);
      }

  -- a run: the first event of its piece, or none
  module _ (b : ℕ) (bs : List ℕ) (r : Receiver) (store : List ℕ) where
    took-turn : (a : After) → a ≡ step r store b → Took a.next a.store bs (stepping a.next a.store bs) → (t : Bool) → is_nothing a.told ≡ t
        → Took r store (b ∷ bs) (cond t (later 1 (stepping a.next a.store bs)) (stops (count_of r) a))
    unfolding along after
    took-turn a e g true q =
        let k = stepping a.next a.store bs in
        let at : 1 + k.taken ≡ suc k.taken = one-add k.taken in
        record {
          few = omega (arith, g.few);
          left =
              ap (λ (m : ℕ). after r store (take m (b ∷ bs))) at
              ∙ ap (λ (x : After). after x.next x.store (take k.taken bs)) (sym e)
              ∙ g.left;
          said = λ n.
              ap (λ (m : ℕ). along note n r store (take m (b ∷ bs))) at
              ∙ ap (λ (x : After). note (suc n) x.told x.store ++ along note (suc n) x.next x.store (take k.taken bs)) (sym e)
              ∙ ap (λ (l : List A). l ++ along note (suc n) a.next a.store (take k.taken bs)) (silent a.told q (suc n) a.store)
              ∙ g.said (suc n)
              ∙ ap (λ (m : ℕ). note m k.told k.store) (let f : suc n + k.taken ≡ n + (1 + k.taken) = omega arith in f);
        }
      where
        silent : (t : Told) → is_nothing t ≡ true → (n : ℕ) (store : List ℕ) → note n t store ≡ []
        silent nothing q n store = mute n store
        silent (frame h m) q n store = cc
        silent (refused k) q n store = cc
        silent (refused_at k p) q n store = cc
    took-turn a e g false q = took_one b bs r store (count_of r) a e

  took-run : (piece : List ℕ) (r : Receiver) (store : List ℕ) → Took r store piece (stepping r store piece)
  unfolding stepping along after
  took-run [] r store = record { few = omega arith; left = refl; said = λ n. sym (mute (n + 0) store) }
  took-run (b ∷ bs) r store =
      let a = step r store b in
      took-turn b bs r store a refl (took-run bs a.next a.store) (is_nothing a.told) refl

  -- over the next bytes of a stream
  pub took-ran : (r : Receiver) (store stream : List ℕ) (most : ℕ) → Fits r store → Took r store stream (run r store (take most stream))
  took-ran r store stream most f =
      let a = run r store (take most stream) in
      let g = subst (Took r store (take most stream)) (sym (run-within-is r store (take most stream) f.0 f.1)) (took-run (take most stream) r store) in
      let same : take a.taken (take most stream) ≡ take a.taken stream = take-take a.taken most stream (omega (arith, g.few, length-take most stream)) in
      record {
        few = omega (arith, g.few, length-take most stream);
        left = ap (after r store) (sym same) ∙ g.left;
        said = λ n. ap (along note n r store) (sym same) ∙ g.said n;
      }

  took-fits : (r : Receiver) (store stream : List ℕ) (a : Run) → Fits r store → Took r store stream a → Fits a.next a.store
  took-fits r store stream a f g = subst (λ (x : After). Fits x.next x.store) g.left (after-fits (take a.taken stream) r store f)

  -- calls of a caller whose calls take bytes so
  module _ (caller : Caller)
      (takes : (r : Receiver) (store stream : List ℕ) (c : caller.Call) → Fits r store → Can (caller.asked c) stream → caller.Keeps r store stream c → Took r store stream (caller.leaves c)) where
    -- each over any next part of a stream, they take no more than there is, and what is noted of them is what is noted along the bytes that they took
    pub any-cutting : (cs : List caller.Call) (n : ℕ) (r : Receiver) (store stream : List ℕ) → Fits r store → Calls caller r store stream cs
        → (taken caller cs ≤ length stream) × (told caller note n cs ≡ along note n r store (take (taken caller cs) stream))
    unfolding Calls taken told along
    any-cutting [] n r store stream f h = (omega arith, refl)
    any-cutting (c ∷ cs) n r store stream f h =
        let a = caller.leaves c in
        let k = a.taken in
        let g = takes r store stream c f h.0 h.1 in
        let rest = drop k stream in
        let next = any-cutting cs (n + k) a.next a.store rest (took-fits r store stream a f g) h.2 in
        let front = take (taken caller cs) rest in (
          omega (arith, g.few, next.0, length-drop k stream),
          sym
              (ap (along note n r store) (take-add k (taken caller cs) stream)
              ∙ along-join (take k stream) front n r store
              ∙ (λ i. g.said n i ++ along note (n + length-take-le k stream g.few i) (g.left i).next (g.left i).store front)
              ∙ ap (λ (l : List A). note (n + k) a.told a.store ++ l) (sym next.1)),
        )

    -- where a call that is given a byte takes one, as many calls as there are bytes take all of them
    module _ (moves : (r : Receiver) (store stream : List ℕ) (c : caller.Call) → Fits r store → caller.Keeps r store stream c → Offers (caller.asked c) → 0 < length stream → 0 < (caller.leaves c).taken) where
      pub all_taken : (cs : List caller.Call) (r : Receiver) (store stream : List ℕ) → Fits r store → Calls caller r store stream cs
          → Offered caller cs → length stream ≤ length cs → taken caller cs ≡ length stream
      unfolding Calls taken Offered
      all_taken [] r store stream f h o l = omega arith
      all_taken (c ∷ cs) r store stream f h o l =
          let a = caller.leaves c in
          let k = a.taken in
          let g = takes r store stream c f h.0 h.1 in
          let less = left_less stream k (length cs) l (moves r store stream c f h.1 o.0) in
          omega (arith, g.few, length-drop k stream, all_taken cs a.next a.store (drop k stream) (took-fits r store stream a f g) h.2 o.1 less)
        where
          left_less : (s : List ℕ) (k most : ℕ) → length s ≤ suc most → (0 < length s → 0 < k) → length (drop k s) ≤ most
          left_less [] k most h s = rw (drop-nil k) (omega arith)
          left_less (x ∷ xs) k most h s = omega (arith, length-drop k (x ∷ xs), s (omega arith))

  -- ---- the calls of this crate

  -- a call that keeps its contract
  pub took-call : (r : Receiver) (store stream : List ℕ) (c : Call) → Fits r store → Can (asked c) stream → Keeps r store stream c → Took r store stream (leaves c)
  took-call r store stream (ran most answer store') f can e = subst (Took r store stream) (sym e) (took-ran r store stream most f)
  took-call r store [] (stepped answer store') f can e = absurd (omega arith)
  took-call r store (b ∷ bs) (stepped answer store') f can e = took_one b bs r store 0 (gives answer.next store' (paper answer.event)) e

pub run-moves : (r : Receiver) (store stream : List ℕ) (most : ℕ) → Fits r store → 0 < most → 0 < length stream → 0 < (run r store (take most stream)).taken
unfolding stepping
run-moves r store [] most f o h = absurd (omega arith)
run-moves r store (b ∷ bs) zero f o h = absurd (omega arith)
run-moves r store (b ∷ bs) (suc most) f o h =
    subst (λ (a : Run). 0 < a.taken) (sym (run-within-is r store (b ∷ take most bs) f.0 f.1))
    (by_cond (λ (a : Run). 0 < a.taken) (is_nothing (step r store b).told) (λ t. omega arith) (λ t. omega arith))

pub moves : (r : Receiver) (store stream : List ℕ) (c : Call) → Fits r store → Keeps r store stream c → Offers (asked c) → 0 < length stream → 0 < (leaves c).taken
moves r store stream (ran most answer store') f e o h = subst (λ (a : Run). 0 < a.taken) (sym e) (run-moves r store stream most f o h)
moves r store stream (stepped answer store') f e o h = omega arith
