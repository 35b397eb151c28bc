-- A refusal with a place is told at a CR, of the characters that are held, and these are what came since the last SOI, none of them SOI or CR.
use Rattle.std.proofs.Common.{◌≡◌, refl, sym, ap, ◌∙◌, subst, inl, inr, ◌↔◌, Bool, true, false, List, [], ◌∷◌, ◌++◌, append-nil, Option, ℕ, zero, suc, ◌+◌, ◌-◌, ◌≤◌, ◌<◌, arith, length, get_or, take, drop, length-append, take-suc-set, length-take-le, get_or-take, get_or-drop, get_or-append-add, ltb, ltb→lt}
use mathlib.Core.List.{head-eq_of_cons-eq}
use Rattle.std.specs.Prelude.{Some, None}
use Rattle.std.proofs.Math.Seq.{slice, length-slice, split_at, get_or-append_seam, drop-append-add}
use Rattle.buffer.proofs.Lists.{by_cond}
use Rattle.frame.specs.Frame.{SOI, CR}
use Rattle.frame.specs.Judge.{Told, refused_at, judge}
use Rattle.frame.proofs.Places.{placed}
use Rattle.receiver.specs.declared.Receiver.{Receiver}
use Rattle.receiver.specs.declared.Receiver.TheVariants.{Waiting, Open}
use Rattle.receiver.specs.Step.{Kind, soi, cr, other, kind, After, step_by, step}
use Rattle.receiver.specs.Run.{is_nothing}
use Rattle.receiver.specs.Pass.{Fits}
use Rattle.receiver.specs.Stream.{after, along, told_after, told_at}
use Rattle.receiver.specs.Calls.{Can, Caller, here}
use Rattle.receiver.specs.Damage.{inside}
use Rattle.receiver.specs.Place.{BadStretch, PlacesTold}
use Rattle.receiver.proofs.Rows.{is-soi, is-cr, is-other, step-within}
use Rattle.receiver.proofs.Receive.{Plain, plain-join, kind-cr, held, holds, Opened, after_open, after-fits, after-join, step-soi, step-cr, after-plain}
use Rattle.receiver.proofs.Streams.{cut}
use Rattle.receiver.proofs.Pieces.{Took, any-cutting, took-call}
use Rattle.receiver.proofs.Damage.{silent, there, along-late, from-fresh, told_in_lem}

-- ---- the characters that are held are neither SOI nor CR

abbrev PlainHeld : Option (List ℕ) → Type 0
PlainHeld None = Unit {0}
PlainHeld (Some c) = Plain c

plain_by : (k : Kind) (r : Receiver) (store : List ℕ) (b : ℕ) → kind b ≡ k → Fits r store → PlainHeld (held r store) → PlainHeld (holds (step_by k r store b))
unfolding step_by
plain_by soi Waiting store b e f h = tt
plain_by cr Waiting store b e f h = tt
plain_by other Waiting store b e f h = tt
plain_by soi (Open n) store b e f h = tt
plain_by cr (Open n) store b e f h = tt
plain_by other (Open n) store b e f h =
    by_cond (λ (a : After). PlainHeld (holds a)) (ltb n 4110)
    (λ t. subst Plain (sym (take-suc-set store n b (omega (arith, f.0, ltb→lt n 4110 t)))) (plain-join (take n store) (b ∷ []) h (e, tt)))
    (λ t. tt)

plain-after : (s : List ℕ) (r : Receiver) (store : List ℕ) → Fits r store → PlainHeld (held r store) → PlainHeld (holds (after r store s))
unfolding after
plain-after [] r store f h = h
plain-after (b ∷ s) r store f h =
    let a = step r store b in
    plain-after s a.next a.store (after-fits (b ∷ []) r store f)
    (subst (λ (x : After). PlainHeld (holds x)) (sym (step-within r store b f.0 f.1)) (plain_by (kind b) r store b refl f h))

plain_at : (c : List ℕ) → Plain c → (m : ℕ) → m < length c → kind (get_or c m 0) ≡ other
plain_at [] h m l = absurd (omega arith)
plain_at (b ∷ c) h zero l = h.0
plain_at (b ∷ c) h (suc m) l = plain_at c h.1 m (omega arith)

plain_of : (c : List ℕ) → ((m : ℕ) → m < length c → kind (get_or c m 0) ≡ other) → Plain c
plain_of [] h = tt
plain_of (b ∷ c) h = (h 0 (omega arith), plain_of c (λ m l. h (suc m) (omega arith)))

-- ---- at a byte

-- only a CR, and where characters are held
closes-bad : (k : Kind) (r : Receiver) (store : List ℕ) (b n p : ℕ) → kind b ≡ k → (step_by k r store b).told ≡ refused_at n p
    → (b ≡ CR) × (c : List ℕ) × (held r store ≡ Some c) × (judge c ≡ refused_at n p)
unfolding step_by
closes-bad soi Waiting store b n p q e = cc
closes-bad cr Waiting store b n p q e = cc
closes-bad other Waiting store b n p q e = cc
closes-bad soi (Open m) store b n p q e = cc
closes-bad cr (Open m) store b n p q e = (kind-cr b q, take m store, refl, e)
closes-bad other (Open m) store b n p q e =
    by_cond (λ (a : After). a.told ≡ refused_at n p → (b ≡ CR) × (c : List ℕ) × (held (Open m) store ≡ Some c) × (judge c ≡ refused_at n p)) (ltb m 4110) (λ t g. cc) (λ t g. cc) e

module _ (store s : List ℕ) (room : 4110 ≤ length store) (j k p : ℕ) (here : j < length s) where
  abbrev a : After
  a = after Waiting store (take j s)

  fits : (t : List ℕ) → Fits (after Waiting store t).next (after Waiting store t).store
  fits t = after-fits t Waiting store (room, omega arith)

  told-there : told_at store s j ≡ refused_at k p → (i : ℕ) × BadStretch s i j k p
  unfolding told_at told_after
  told-there e =
      let f = fits (take j s) in
      let r = closes-bad (kind (get_or s j 0)) a.next a.store (get_or s j 0) k p refl (ap (λ (x : After). x.told) (sym (step-within a.next a.store (get_or s j 0) f.0 f.1)) ∙ e) in
      go r.0 r.1 (subst PlainHeld r.2 (plain-after (take j s) Waiting store (room, omega arith) tt)) r.3 (after_open (take j s) Waiting store r.1 (room, omega arith) r.2)
    where
      go : get_or s j 0 ≡ CR → (c : List ℕ) → Plain c → judge c ≡ refused_at k p → Opened None (take j s) c → (i : ℕ) × BadStretch s i j k p
      go ends c plain bad (inr (d, x, y)) = cc x
      go ends c plain bad (inl (q, e)) = (
        length q,
        record {
          order = omega (arith, lengths);
          opens = at (length q) (omega (arith, lengths)) ∙ get_or-append_seam q SOI c 0;
          closes = ends;
          between = λ m l r.
              let d : ℕ = m - suc (length q) in
              let split : m ≡ length q + suc d = omega arith in
              let is : get_or s m 0 ≡ get_or c d 0 = at m r ∙ ap (λ (x : ℕ). get_or (q ++ SOI ∷ c) x 0) split ∙ get_or-append-add q (SOI ∷ c) (suc d) 0 in
              let of : kind (get_or s m 0) ≡ other = ap kind is ∙ plain_at c plain d (omega (arith, lengths)) in
              (λ z. cc (is-soi (get_or s m 0) z, of), λ z. cc (is-cr (get_or s m 0) z, of));
          placed = (placed k p (slice (suc (length q)) j s)).0 (ap judge chars ∙ bad);
        },
      )
        where
          lengths : j ≡ length q + suc (length c)
          lengths = omega (arith, length-take-le j s (omega arith), ap length e, length-append q (SOI ∷ c))

          at : (m : ℕ) → m < j → get_or s m 0 ≡ get_or (q ++ SOI ∷ c) m 0
          at m h = sym (get_or-take j s m 0 h) ∙ ap (λ (x : List ℕ). get_or x m 0) e

          chars : slice (suc (length q)) j s ≡ c
          chars =
              ap (drop (suc (length q))) e
              ∙ ap (λ (n : ℕ). drop n (q ++ SOI ∷ c)) (let n : suc (length q) ≡ length q + 1 = omega arith in n)
              ∙ drop-append-add q (SOI ∷ c) 1

  told_back : (i : ℕ) → BadStretch s i j k p → told_at store s j ≡ refused_at k p
  unfolding told_at told_after after
  told_back i b =
      let c = slice (suc i) j s in
      let l = after Waiting store (take i s) in
      let o = step l.next l.store SOI in
      let size = length-slice (suc i) j s (omega arith) in
      let plain : Plain c =
      plain_of c
      (λ m h. let at : get_or c m 0 ≡ get_or s (suc i + m) 0 = get_or-drop (suc i) (take j s) m 0 ∙ get_or-take j s (suc i + m) 0 (omega (arith, size)) in
      let apart = b.between (suc i + m) (omega arith) (omega (arith, size)) in
      ap kind at ∙ is-other (get_or s (suc i + m) 0) apart.0 apart.1) in
      let holding : holds a ≡ Some c =
      ap (λ (x : List ℕ). holds (after Waiting store x)) (cut s i j b.order (omega arith) b.opens)
      ∙ ap holds (after-join (take i s) (SOI ∷ c) Waiting store)
      ∙ after-plain c [] o.next o.store (after-fits (SOI ∷ []) l.next l.store (fits (take i s))) (step-soi l.next l.store (fits (take i s))) plain (omega (arith, b.placed.few)) in
      ap (λ (x : ℕ). (step a.next a.store x).told) b.closes
      ∙ ap (λ (x : After). x.told) (step-cr a.next a.store c (fits (take j s)) holding)
      ∙ (placed k p c).1 b.placed

  pub told-bad : (told_at store s j ≡ refused_at k p) ↔ ((i : ℕ) × BadStretch s i j k p)
  told-bad = (told-there, λ (i, b). told_back i b)

-- ---- over calls

-- what is told at place j alone
told-one : (store s : List ℕ) → 4110 ≤ length store → (j : ℕ) → j < length s → (left : List ℕ) × (along (inside j j) 0 Waiting store s ≡ inside j j (suc j) (told_at store s j) left)
unfolding along told_at told_after
told-one store s room j h =
    let rest = drop (suc j) s in
    let z = after Waiting store (take j s) in
    let w = step z.next z.store (get_or s j 0) in
    let size = length-take-le j s (omega arith) in (
      w.store,
      ap (along (inside j j) 0 Waiting store) (split_at s j 0 h)
          ∙ from-fresh j j store room (take j s) (get_or s j 0 ∷ rest) (omega (arith, size))
          ∙ (λ i. inside j j (suc (size i)) w.told w.store ++ along-late j j rest (suc (length (take j s))) w.next w.store (omega (arith, size)) i)
          ∙ append-nil (inside j j (suc j) w.told w.store),
    )

only_that : (j : ℕ) (t u : Told) (store : List ℕ) → is_nothing u ≡ false → (inside j j (suc j) t store ≡ (j, u) ∷ []) ↔ (t ≡ u)
unfolding inside
only_that j t u store loud = (to (is_nothing t) refl, λ e. ap (λ (x : Told). inside j j (suc j) x store) e ∙ there j j j u store loud (omega arith) (omega arith))
  where
    to : (quiet : Bool) → is_nothing t ≡ quiet → inside j j (suc j) t store ≡ (j, u) ∷ [] → t ≡ u
    to true e q = let none : ◌≡◌ {A = List (ℕ × Told)} [] ((j, u) ∷ []) = rw e at q in cc
    to false e q = ap (λ (x : ℕ × Told). x.1) (head-eq_of_cons-eq (sym (there j j j t store e (omega arith) (omega arith)) ∙ q))

module _ (caller : Caller)
    (takes : (a b : ℕ) (r : Receiver) (store stream : List ℕ) (c : caller.Call) → Fits r store → Can (caller.asked c) stream → caller.Keeps r store stream c
    → Took (inside a b) (silent a b) r store stream (caller.leaves c)) where
  pub places_of : (store : List ℕ) → 4110 ≤ length store → PlacesTold caller store
  places_of store room s cs calls j k p l =
      let few = (any-cutting (inside j j) (silent j j) caller (takes j j) cs 0 Waiting store s (room, omega arith) calls).0 in
      let one = told-one store s room j (omega arith) in
      let is = told_in_lem caller takes store room j j s cs calls l ∙ one.1 in
      let at = only_that j (told_at store s j) (refused_at k p) one.0 refl in
      let bad = told-bad store s room j k p (omega arith) in
      (λ e. bad.0 (at.0 (sym is ∙ e)), λ b. is ∙ at.1 (bad.1 b))

pub places-told : (store : List ℕ) → 4110 ≤ length store → PlacesTold here store
places-told = places_of here (λ a b. took-call (inside a b) (silent a b))
