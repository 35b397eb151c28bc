-- Two neighbours exchanged in a stretch: it is a whole encoding again, so it is handed out, or none is among its characters.
use Rattle.std.proofs.Common.{◌≡◌, refl, sym, ap, ◌∙◌, subst, ◌⊎◌, inl, inr, ◌≢◌, List, ◌∷◌, ◌++◌, append_assoc, ℕ, suc, ◌+◌, ◌-◌, ◌≤◌, ◌<◌, arith, length, get_or, take, drop, length-append, drop-cons, get_or-take, length-take-le}
use Rattle.std.proofs.Math.Seq.{slice, length-slice}
use Rattle.hex_chars.proofs.Laws.{Hexy, hexy-cut, hexy-join}
use Rattle.frame.specs.declared.Header.{Header}
use Rattle.frame.specs.Frame.{SOI, CR, info_at, Whole, Frames}
use Rattle.frame.specs.Judge.{header, lenid}
use Rattle.frame.proofs.Judging.{whole-good}
use Rattle.frame.proofs.Exchanged.{Beside, passes, elsewhere}
use Rattle.receiver.specs.Stream.{Stretch}
use Rattle.receiver.specs.Calls.{Caller, taken, here}
use Rattle.receiver.specs.Demand.{handed, Of, Demand3}
use Rattle.receiver.specs.Damage.{exchanged, Unseen, Exchanged}
use Rattle.receiver.proofs.Streams.{cut, wire, stretch-of, only-all, long, span, whole_of, lenid-of, left, none_in, parted}
use Rattle.receiver.proofs.Demand.{shorter, none_from, demand-3}

module _ (s : List ℕ) (i j : ℕ) (h : Header) (n : ℕ) (f : Stretch s i j h n) (k : ℕ) (behind : i < k) (before : suc k < j) where
  abbrev pub x : List ℕ
  x = slice (suc i) k s

  abbrev pub a : ℕ
  a = get_or s k 0

  abbrev pub b : ℕ
  b = get_or s (suc k) 0

  abbrev pub y : List ℕ
  y = slice (suc (suc k)) j s

  is : slice (suc i) j s ≡ x ++ a ∷ b ∷ y
  is =
      parted s i j h n f k behind (omega arith)
      ∙ ap (λ (z : List ℕ). x ++ a ∷ z)
      (drop-cons (take j s) (suc k) 0 (omega (arith, long s i j h n f, length-take-le j s (omega (arith, long s i j h n f)))) ∙ ap (λ (c : ℕ). c ∷ y) (get_or-take j s (suc k) 0 before))

  whole : Whole (x ++ a ∷ b ∷ y)
  whole = subst Whole is (whole_of s i j h n f)

  pub sizes : (length x ≡ k - suc i) × (length y ≡ j - suc (suc k)) × (length (x ++ b ∷ a ∷ y) ≡ j - suc i) × (j ≡ i + (17 + n))
  sizes =
      let p = length-slice (suc i) k s (omega (arith, long s i j h n f)) in
      let q = length-slice (suc (suc k)) j s (omega (arith, long s i j h n f)) in
      (p, q, omega (arith, p, q, length-append x (b ∷ a ∷ y)), span s i j h n f)

  lenid-is : lenid (x ++ a ∷ b ∷ y) ≡ n
  lenid-is = ap lenid (sym is) ∙ lenid-of s i j h n f

  -- the stream with them exchanged
  pub now : exchanged k s ≡ wire (take i s) (x ++ b ∷ a ∷ y) (drop (suc j) s)
  unfolding wire
  now =
      (λ t. cut s i k behind (omega (arith, long s i j h n f)) f.opens t ++ b ∷ a ∷ left s i j h n f (suc (suc k)) before t)
      ∙ append_assoc (take i s) (SOI ∷ x) (b ∷ a ∷ (y ++ CR ∷ drop (suc j) s))
      ∙ ap (λ (z : List ℕ). take i s ++ SOI ∷ z) (sym (append_assoc x (b ∷ a ∷ y) (CR ∷ drop (suc j) s)))

  -- both beside LENGTH and before CHKSUM, in places of the stream
  beside : Unseen i n k → Beside x a b y × (4 ≤ length y)
  beside (inl (p, q)) = (inl (omega (arith, sizes)), omega (arith, sizes))
  beside (inr (p, q)) = (inr (omega (arith, sizes)), omega (arith, sizes))

  unseen : Beside x a b y → 4 ≤ length y → Unseen i n k
  unseen (inl p) q = inl (behind, omega (arith, sizes))
  unseen (inr p) q = inr (omega (arith, sizes), omega (arith, sizes))

  handed_out : Unseen i n k → let c = slice (suc i) j (exchanged k s) in Of (exchanged k s) i (record { header = header c; lenid = n; info = info_at n c; cr = j })
  handed_out o =
      let c = x ++ b ∷ a ∷ y in
      let pre = length-take-le i s (omega (arith, long s i j h n f)) in
      let g = beside o in
      let w : Frames (header c) n c = subst (λ (m : ℕ). Frames (header c) m c) lenid-is (passes x a b y g.1 g.0 whole) in
      let r = stretch-of (take i s) c (drop (suc j) s) (header c) n w i j pre (omega (arith, pre, sizes)) in
      let t : Stretch (exchanged k s) i j (header c) n × (slice (suc i) j (exchanged k s) ≡ c) =
      subst (λ (z : List ℕ). Stretch z i j (header c) n × (slice (suc i) j z ≡ c)) (sym now) r in
      record { stretch = subst (λ (z : List ℕ). Stretch (exchanged k s) i j (header z) n) (sym t.1) t.0; info = refl }

  pub now-hexy : Hexy (x ++ b ∷ a ∷ y)
  now-hexy =
      let p = hexy-cut x (a ∷ b ∷ y) (whole-good (x ++ a ∷ b ∷ y) whole).hexy in
      hexy-join x (b ∷ a ∷ y) p.0 (p.1.1.0, (p.1.0, p.1.1.1))

  -- where they differ, and not only the sum is over them
  module _ (out : Unseen i n k → ⊥) (ne : a ≢ b) where
    pub not-whole : Whole (x ++ b ∷ a ∷ y) → ⊥
    not-whole w = go (elsewhere x a b y whole w)
      where
        go : (a ≡ b) ⊎ (Beside x a b y × (4 ≤ length y)) → ⊥
        go (inl e) = ne e
        go (inr (p, q)) = out (unseen p q)

    none : (l e : ℕ) (g : Header) (q : ℕ) → Stretch (exchanged k s) l e g q → (e < i) ⊎ (j < l)
    none = none_in s i j h n f (x ++ b ∷ a ∷ y) (exchanged k s) now (only-all (x ++ b ∷ a ∷ y) now-hexy not-whole) j (omega (arith, sizes))

-- of any caller that meets demand 3
pub exchanged-of : (caller : Caller) (store : List ℕ) → Demand3 caller store → Exchanged caller store
exchanged-of caller store d =
    record {
      passes = λ s i j h n f k o cs calls m.
          let l = places i j n k o (span s i j h n f) in
          let e = exchanged k s in
          (d.exactly e cs calls _).1 (i, shorter e (taken caller cs) i _ (handed_out s i j h n f k l.0 l.1 o) m);
      elsewhere = λ s i j h n f k l r out ne cs calls.
          none_from (handed caller cs) (exchanged k s) (taken caller cs) i j (λ o. (d.exactly (exchanged k s) cs calls o).0) (none s i j h n f k l r out ne);
    }
  where
    places : (i j n k : ℕ) → Unseen i n k → j ≡ i + (17 + n) → (i < k) × (suc k < j)
    places i j n k (inl (p, q)) e = (p, omega arith)
    places i j n k (inr (p, q)) e = (omega arith, omega arith)

pub exchanged-neighbours : (store : List ℕ) → 4110 ≤ length store → Exchanged here store
exchanged-neighbours store room = exchanged-of here store (demand-3 store room)
