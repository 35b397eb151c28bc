-- The one law of the receiver, `heard`: a frame is told at a CR where an SOI and the frame's characters are what comes before, and nowhere else.
use Rattle.std.proofs.Common.{◌≡◌, refl, sym, ap, ◌∙◌, ◌⊎◌, inl, inr, ◌↔◌, List, [], ◌∷◌, ◌++◌, append-nil, Option, ℕ, suc, ◌+◌, ◌≤◌, ◌<◌, arith, length, take, set, length-append, length-set, length-take-le, take-suc-set, ltb, eqb, eqb→eq, ltb→lt, nltb→le}
use Rattle.std.specs.Prelude.{Some, None}
use Rattle.std.proofs.Math.Seq.{append_snoc}
use Rattle.buffer.proofs.Lists.{by_cond}
use Rattle.hex_chars.proofs.Laws.{said, Hexy, said-range}
use Rattle.frame.specs.declared.Header.{Header}
use Rattle.frame.specs.Frame.{SOI, CR, Whole, Frames}
use Rattle.frame.specs.Judge.{frame, judge}
use Rattle.frame.proofs.Judging.{judge-accepts, whole-good, whole-count}
use Rattle.receiver.specs.declared.Receiver.{Receiver}
use Rattle.receiver.specs.declared.Receiver.TheVariants.{Waiting, Open}
use Rattle.receiver.specs.Step.{Kind, soi, cr, other, kind, After, gives, step_by, step}
use Rattle.receiver.specs.Pass.{Fits}
use Rattle.receiver.specs.Stream.{after, told_after}
use Rattle.receiver.proofs.Rows.{is-soi, is-other, step-within, row-judged}

-- ---- kinds of bytes

pub kind-soi : (b : ℕ) → kind b ≡ soi → b ≡ SOI
unfolding kind
kind-soi b =
    by_cond (λ (k : Kind). k ≡ soi → b ≡ SOI) (eqb b SOI) (λ t e. eqb→eq b SOI t)
    (λ t. by_cond (λ (k : Kind). k ≡ soi → b ≡ SOI) (eqb b CR) (λ u e. cc) (λ u e. cc))

pub kind-cr : (b : ℕ) → kind b ≡ cr → b ≡ CR
unfolding kind
kind-cr b =
    by_cond (λ (k : Kind). k ≡ cr → b ≡ CR) (eqb b SOI) (λ t e. cc)
    (λ t. by_cond (λ (k : Kind). k ≡ cr → b ≡ CR) (eqb b CR) (λ u e. eqb→eq b CR u) (λ u e. cc))

-- characters: bytes that are neither
abbrev pub Plain : List ℕ → Type 0
Plain [] = Unit {0}
Plain (b ∷ c) = (kind b ≡ other) × Plain c

pub kind-hex : (b : ℕ) → said b < 16 → kind b ≡ other
kind-hex b h = let r = said-range b h in is-other b (λ e. omega arith) (λ e. omega arith)

pub hexy-plain : (c : List ℕ) → Hexy c → Plain c
hexy-plain [] h = tt
hexy-plain (b ∷ c) h = (kind-hex b h.0, hexy-plain c h.1)

pub plain-join : (c d : List ℕ) → Plain c → Plain d → Plain (c ++ d)
plain-join [] d h k = k
plain-join (b ∷ c) d h k = (h.0, plain-join c d h.1 k)

-- ---- the characters that a receiver holds

abbrev pub held : Receiver → List ℕ → Option (List ℕ)
held Waiting store = None
held (Open n) store = Some (take n store)

abbrev pub holds : After → Option (List ℕ)
holds a = held a.next a.store

-- a byte that leaves the receiver open: an SOI, or one more character
abbrev Grown : Option (List ℕ) → ℕ → List ℕ → Type 0
Grown o b d = ((b ≡ SOI) × (d ≡ [])) ⊎ ((c : List ℕ) × (o ≡ Some c) × (d ≡ c ++ b ∷ []))

-- a byte that gives a frame: a CR, which leaves the store as it is
abbrev pub Heard : Option (List ℕ) → ℕ → Header → ℕ → Type 0
Heard o b h n = (b ≡ CR) × (c : List ℕ) × (o ≡ Some c) × (judge c ≡ frame h n)

record Stepped (o : Option (List ℕ)) (store : List ℕ) (b : ℕ) (a : After) : Type 0 where
  fits : Fits a.next a.store
  grown : (d : List ℕ) → holds a ≡ Some d → Grown o b d
  heard : (h : Header) (n : ℕ) → a.told ≡ frame h n → Heard o b h n × (a.store ≡ store)

by_kind : (k : Kind) (r : Receiver) (store : List ℕ) (b : ℕ) → kind b ≡ k → Fits r store → Stepped (held r store) store b (step_by k r store b)
unfolding step_by
by_kind soi Waiting store b q f = record { fits = (f.0, omega arith); grown = λ d e. inl (kind-soi b q, cc); heard = λ h n e. cc }
by_kind cr Waiting store b q f = record { fits = f; grown = λ d e. cc; heard = λ h n e. cc }
by_kind other Waiting store b q f = record { fits = f; grown = λ d e. cc; heard = λ h n e. cc }
by_kind soi (Open m) store b q f = record { fits = (f.0, omega arith); grown = λ d e. inl (kind-soi b q, cc); heard = λ h n e. cc }
by_kind cr (Open m) store b q f =
    record { fits = (f.0, omega arith); grown = λ d e. cc; heard = λ h n e. ((kind-cr b q, take m store, refl, e), refl) }
by_kind other (Open m) store b q f =
    by_cond (Stepped (Some (take m store)) store b) (ltb m 4110)
    (λ t. let l = ltb→lt m 4110 t in
    record {
      fits = (omega (arith, length-set store m b, f.0), l);
      grown = λ d e. inr (take m store, refl, let s = take-suc-set store m b (omega (arith, f.0)) in cc (s, e));
      heard = λ h n e. cc;
    })
    (λ t. record { fits = (f.0, omega arith); grown = λ d e. cc; heard = λ h n e. cc })

stepped : (r : Receiver) (store : List ℕ) (b : ℕ) → Fits r store → Stepped (held r store) store b (step r store b)
stepped r store b f = rw (step-within r store b f.0 f.1) (by_kind (kind b) r store b refl f)

-- ---- after a stream

pub step-fits : (r : Receiver) (store : List ℕ) (b : ℕ) → Fits r store → Fits (step r store b).next (step r store b).store
step-fits r store b f = (stepped r store b f).fits

pub after-fits : (s : List ℕ) (r : Receiver) (store : List ℕ) → Fits r store → Fits (after r store s).next (after r store s).store
unfolding after
after-fits [] r store f = f
after-fits (b ∷ s) r store f = let a = step r store b in after-fits s a.next a.store (stepped r store b f).fits

pub after-join : (s t : List ℕ) (r : Receiver) (store : List ℕ) → after r store (s ++ t) ≡ after (after r store s).next (after r store s).store t
unfolding after
after-join [] t r store = refl
after-join (b ∷ s) t r store = let a = step r store b in after-join s t a.next a.store

abbrev pub Opened : Option (List ℕ) → List ℕ → List ℕ → Type 0
Opened o s c = ((q : List ℕ) × (s ≡ q ++ SOI ∷ c)) ⊎ ((d : List ℕ) × (o ≡ Some d) × (c ≡ d ++ s))

-- an open receiver holds what came since an SOI
pub after_open : (s : List ℕ) (r : Receiver) (store c : List ℕ) → Fits r store → holds (after r store s) ≡ Some c → Opened (held r store) s c
unfolding after
after_open [] r store c f e = inr (c, e, sym (append-nil c))
after_open (b ∷ s) r store c f e =
    go (after_open s (step r store b).next (step r store b).store c (stepped r store b f).fits e)
  where
    turn : (d : List ℕ) → c ≡ d ++ s → Grown (held r store) b d → Opened (held r store) (b ∷ s) c
    turn d p (inl (k, l)) = inl ([], cc)
    turn d p (inr (a, k, l)) = inr (a, k, p ∙ ap (λ (x : List ℕ). x ++ s) l ∙ append_snoc a b s)

    go : Opened (holds (step r store b)) s c → Opened (held r store) (b ∷ s) c
    go (inl (q, p)) = inl (b ∷ q, ap (λ (x : List ℕ). b ∷ x) p)
    go (inr (d, p, q)) = turn d q ((stepped r store b f).grown d p)

-- SOI opens, whatever the receiver was
soi-by : (r : Receiver) (store : List ℕ) → holds (step_by soi r store SOI) ≡ Some []
unfolding step_by
soi-by Waiting store = refl
soi-by (Open n) store = refl

pub step-soi : (r : Receiver) (store : List ℕ) → Fits r store → holds (step r store SOI) ≡ Some []
step-soi r store f = rw (step-within r store SOI f.0 f.1, is-soi SOI refl) (soi-by r store)

-- CR has what is held judged
pub step-cr : (r : Receiver) (store c : List ℕ) → Fits r store → held r store ≡ Some c → step r store CR ≡ gives Waiting store (judge c)
step-cr Waiting store c f e = cc
step-cr (Open n) store c f e = let q : c ≡ take n store = cc in sym (row-judged store CR f.0 n f.1 (judge c) (ap judge q) refl)

-- a character is held behind the others
more_by : (x : ℕ) (d : List ℕ) (r : Receiver) (store : List ℕ) → Fits r store → held r store ≡ Some d → length d < 4110
    → holds (step_by other r store x) ≡ Some (d ++ x ∷ [])
unfolding step_by
more_by x d Waiting store f e l = cc
more_by x d (Open n) store f e l =
    let q : take n store ≡ d = cc in
    let m = length-take-le n store (omega (arith, f.0, f.1)) in
    let s : take (suc n) (set store n x) ≡ d ++ x ∷ [] = take-suc-set store n x (omega (arith, f.0, ap length q)) ∙ ap (λ (y : List ℕ). y ++ x ∷ []) q in
    by_cond (λ (a : After). holds a ≡ Some (d ++ x ∷ [])) (ltb n 4110) (λ t. ap Some s) (λ t. absurd (omega (arith, nltb→le n 4110 t, ap length q)))

pub step-more : (x : ℕ) (d : List ℕ) (r : Receiver) (store : List ℕ) → Fits r store → held r store ≡ Some d → kind x ≡ other → length d < 4110
    → holds (step r store x) ≡ Some (d ++ x ∷ [])
step-more x d r store f e h l = rw (step-within r store x f.0 f.1, h) (more_by x d r store f e l)

pub after-plain : (c d : List ℕ) (r : Receiver) (store : List ℕ) → Fits r store → held r store ≡ Some d → Plain c → length d + length c ≤ 4110
    → holds (after r store c) ≡ Some (d ++ c)
unfolding after
after-plain [] d r store f e h l = e ∙ ap Some (sym (append-nil d))
after-plain (x ∷ c) d r store f e h l =
    let a = step r store x in
    after-plain c (d ++ x ∷ []) a.next a.store (stepped r store x f).fits (step-more x d r store f e h.0 (omega arith)) h.1 (omega (arith, length-append d (x ∷ [])))
    ∙ ap Some (append_snoc d x c)

-- ---- a frame at a byte: what stands before it

-- b is a CR, and an SOI and the frame's characters are what comes before it
abbrev pub Closes : List ℕ → ℕ → Header → ℕ → Type 0
Closes p b h n = (b ≡ CR) × (q : List ℕ) × (c : List ℕ) × (p ≡ q ++ SOI ∷ c) × Frames h n c

module _ (store p : List ℕ) (b : ℕ) (h : Header) (n : ℕ) (room : 4110 ≤ length store) where
  fits : (q : List ℕ) → Fits (after Waiting store q).next (after Waiting store q).store
  fits q = after-fits q Waiting store (room, omega arith)

  -- what is held when a frame is told came since an SOI
  told-since : (r : Heard (holds (after Waiting store p)) b h n) → (q : List ℕ) × (p ≡ q ++ SOI ∷ r.1)
  told-since r = go (after_open p Waiting store r.1 (room, omega arith) r.2)
    where
      go : Opened None p r.1 → (q : List ℕ) × (p ≡ q ++ SOI ∷ r.1)
      go (inl s) = s
      go (inr (d, s, t)) = cc s

  -- the characters stand at the front of the store when the frame is told
  pub stands : told_after store p b ≡ frame h n
      → (r : Closes p b h n) × (take (length r.2) (step (after Waiting store p).next (after Waiting store p).store b).store ≡ r.2)
  unfolding told_after
  stands e =
      let a = after Waiting store p in
      let s = (stepped a.next a.store b (fits p)).heard h n e in
      let r = s.0 in
      let o = told-since r in (
        (r.0, o.0, r.1, o.1, (judge-accepts r.1 h n).0 r.3),
        ap (λ (x : List ℕ). take (length r.1) x) s.1 ∙ front a.next a.store r.1 (fits p) r.2,
      )
    where
      front : (r : Receiver) (store c : List ℕ) → Fits r store → held r store ≡ Some c → take (length c) store ≡ c
      front Waiting store c f e = cc
      front (Open m) store c f e =
          let q : take m store ≡ c = cc in
          let l = length-take-le m store (omega (arith, f.0, f.1)) in
          let k : length c ≡ m = omega (arith, ap length q) in
          ap (λ (x : ℕ). take x store) k ∙ q

  pub heard : (told_after store p b ≡ frame h n) ↔ Closes p b h n
  unfolding told_after after
  heard = (λ e. (stands e).0, back)
    where
      holding : (q c : List ℕ) → Whole c → holds (after Waiting store (q ++ SOI ∷ c)) ≡ Some c
      holding q c w =
          let k = whole-count c w in
          let l = after Waiting store q in
          let o = step l.next l.store SOI in
          ap holds (after-join q (SOI ∷ c) Waiting store)
          ∙ after-plain c [] o.next o.store (stepped l.next l.store SOI (fits q)).fits
          (step-soi l.next l.store (fits q)) (hexy-plain c (whole-good c w).hexy) (omega arith)

      back : Closes p b h n → told_after store p b ≡ frame h n
      back (e, q, c, s, w) =
          let a = after Waiting store p in
          ap (λ (x : ℕ). (step a.next a.store x).told) e
          ∙ ap (λ (z : After). z.told) (step-cr a.next a.store c (fits p) (ap (λ (x : List ℕ). holds (after Waiting store x)) s ∙ holding q c (h, w.0, w.1)))
          ∙ (judge-accepts c h n).1 w
