-- The receiver over a stream, by places: list work over `heard`, the machine is not looked at again. A damaged stretch shares no place with a whole encoding.
use Rattle.std.proofs.Common.{◌≡◌, refl, sym, ap, ◌∙◌, subst, ◌⊎◌, inl, inr, ◌↔◌, ◌≢◌, List, [], ◌∷◌, ◌++◌, append_assoc, ℕ, zero, suc, ◌+◌, ◌-◌, ◌≤◌, ◌<◌, add-one, arith, length, get_or, take, drop, set, length-append, length-drop, take-append-drop, take-suc, take-take, drop-cons, length-take-le, get_or-take, get_or-drop, get_or-append-add, take_at}
use mathlib.Core.List.{head-eq_of_cons-eq, tail-eq_of_cons-eq}
use Rattle.std.proofs.Math.Decide.{dec_lt}
use Rattle.std.proofs.Math.ListN.{get_or-eq_default, get_or-append}
use Rattle.std.proofs.Math.Seq.{set_split, append_snoc, slice, get_or-append_seam, take-append-add, drop-append-add, drop-append-le, split_at, take-append-le, length-slice}
use Rattle.buffer.proofs.Lists.{levi, Levi}
use Rattle.hex_chars.proofs.Laws.{said, Hexy, hexy-cut, hexy-join}
use Rattle.frame.specs.declared.Header.{Header}
use Rattle.frame.specs.Frame.{SOI, CR, info_at, Whole, Frames}
use Rattle.frame.specs.Judge.{frame, lenid}
use Rattle.frame.proofs.Judging.{chars-read, whole-good, whole-count}
use Rattle.frame.proofs.Changes.{whole-one-place, whole-prefix, whole-suffix}
use Rattle.frame.proofs.Steps.{length-chars}
use Rattle.receiver.specs.declared.Receiver.TheVariants.{Waiting}
use Rattle.receiver.specs.Step.{After, step}
use Rattle.receiver.specs.Stream.{after, told_after, told_at, store_at, Stretch}
use Rattle.receiver.specs.Damage.{lost, doubled}
use Rattle.receiver.proofs.Receive.{Closes, heard, stands, after-join}

-- ---- hex characters, and characters that are not

pub not-hex : (s z : List ℕ) (r : ℕ) (d : List ℕ) → Hexy s → 16 ≤ said r → s ≡ z ++ r ∷ d → ⊥
not-hex s z r d h o e = omega (arith, (hexy-cut z (r ∷ d) (subst Hexy e h)).1.0)

pub cr-odd : 16 ≤ said CR
unfolding said
cr-odd = omega arith

soi-odd : 16 ≤ said SOI
unfolding said
soi-odd = omega arith

-- hex characters but for one place: a character r that is not hex can stand only there
odd-one : (x : List ℕ) (b : ℕ) (y z : List ℕ) (r : ℕ) (d : List ℕ) → Hexy x → Hexy y → 16 ≤ said r → x ++ b ∷ y ≡ z ++ r ∷ d
    → (z ≡ x) × (b ≡ r) × (d ≡ y)
odd-one [] b y [] r d h k o e = (refl, head-eq_of_cons-eq e, sym (tail-eq_of_cons-eq e))
odd-one [] b y (a ∷ z) r d h k o e = absurd (not-hex y z r d k o (tail-eq_of_cons-eq e))
odd-one (a ∷ x) b y [] r d h k o e = absurd (omega (arith, ap said (head-eq_of_cons-eq e), h.0))
odd-one (a ∷ x) b y (a' ∷ z) r d h k o e =
    let q = odd-one x b y z r d h.1 k o (tail-eq_of_cons-eq e) in
    (cc (q.0, head-eq_of_cons-eq e), q.1, q.2)

-- d are the characters of x since an SOI: the one before x, or one in x
abbrev Since : List ℕ → List ℕ → Type 0
Since x d = (x ≡ d) ⊎ ((z : List ℕ) × (x ≡ z ++ SOI ∷ d))

-- the last SOI of a list that ends in hex characters is the one before these
since : (p x q d : List ℕ) → Hexy d → p ++ SOI ∷ x ≡ q ++ SOI ∷ d → Since x d
since p x q d h e = go (levi p (SOI ∷ x) q (SOI ∷ d) e)
  where
    go : Levi p (SOI ∷ x) q (SOI ∷ d) → Since x d
    go (inl ([], u, v)) = inl (tail-eq_of_cons-eq v)
    go (inl (a ∷ z, u, v)) = inr (z, tail-eq_of_cons-eq v)
    go (inr (w, z, u, v)) = absurd (not-hex d z SOI x h soi-odd (tail-eq_of_cons-eq v))

pub hexy-frame : (h : Header) (n : ℕ) (c : List ℕ) → Frames h n c → Hexy c
hexy-frame h n c f = (whole-good c (h, f.0, f.1)).hexy

-- ---- exactly the stretches that are whole encodings

pub in_range : (s : List ℕ) (j : ℕ) → get_or s j 0 ≡ CR → j < length s
in_range s j e =
    elim (dec_lt j (length s)) [
      | yes h ↦ h
      | no h ↦ let l : length s ≤ j = omega arith in absurd (omega (arith, get_or-eq_default s 0 l))
    ]

-- what stands before place k, from an SOI at i on
pub cut : (s : List ℕ) (i k : ℕ) → i < k → k ≤ length s → get_or s i 0 ≡ SOI → take k s ≡ take i s ++ SOI ∷ slice (suc i) k s
cut s i k h l e =
    let x : get_or (take k s) i 0 ≡ SOI = get_or-take k s i 0 h ∙ e in
    split_at (take k s) i 0 (omega (arith, length-take-le k s l)) ∙ (λ t. take-take i k s (omega arith) t ++ x t ∷ slice (suc i) k s)

pub cut-stretch : (s : List ℕ) (i j : ℕ) (h : Header) (n : ℕ) → Stretch s i j h n → take j s ≡ take i s ++ SOI ∷ slice (suc i) j s
cut-stretch s i j h n f = cut s i j f.order (omega (arith, in_range s j f.closes)) f.opens

-- an SOI and characters before a CR are a stretch
stretch : (s : List ℕ) (j : ℕ) (h : Header) (n : ℕ) (r : Closes (take j s) (get_or s j 0) h n) → Stretch s (length r.1) j h n × (slice (suc (length r.1)) j s ≡ r.2)
stretch s j h n r =
    let q = r.1 in
    let c = r.2 in
    let l = length-take-le j s (omega (arith, in_range s j r.0)) in
    let o : length q < j = omega (arith, ap length r.3, length-append q (SOI ∷ c)) in
    let d : slice (suc (length q)) j s ≡ c =
    ap (drop (suc (length q))) r.3 ∙ rw (← add-one (length q)) (drop-append-add q (SOI ∷ c) 1) in (
      record {
        order = o;
        opens = sym (get_or-take j s (length q) 0 o) ∙ ap (λ (x : List ℕ). get_or x (length q) 0) r.3 ∙ get_or-append_seam q SOI c 0;
        closes = r.0;
        frame = subst (Frames h n) (sym d) r.4;
      },
      d,
    )

-- from a fresh receiver: a frame is told at place j if a stretch with it ends there, and only then
pub exactly : (store s : List ℕ) (j : ℕ) (h : Header) (n : ℕ) → 4110 ≤ length store
    → (told_at store s j ≡ frame h n) ↔ ((i : ℕ) × Stretch s i j h n)
unfolding told_at
exactly store s j h n room = (there, back)
  where
    there : told_after store (take j s) (get_or s j 0) ≡ frame h n → (i : ℕ) × Stretch s i j h n
    there e = let r = (heard store (take j s) (get_or s j 0) h n room).0 e in (length r.1, (stretch s j h n r).0)

    back : (i : ℕ) × Stretch s i j h n → told_after store (take j s) (get_or s j 0) ≡ frame h n
    back (i, f) = (heard store (take j s) (get_or s j 0) h n room).1 (f.closes, take i s, slice (suc i) j s, cut-stretch s i j h n f, f.frame)

-- the SOI of a frame's CR is one
pub one-soi : (s : List ℕ) (i i' j : ℕ) (h h' : Header) (n n' : ℕ) → Stretch s i j h n → Stretch s i' j h' n' → i ≡ i'
one-soi s i i' j h h' n n' f f' =
    go (since (take i s) c (take i' s) c' (hexy-frame h' n' c' f'.frame) (sym (cut-stretch s i j h n f) ∙ cut-stretch s i' j h' n' f'))
  where
    c : List ℕ
    c = slice (suc i) j s

    c' : List ℕ
    c' = slice (suc i') j s

    go : Since c c' → i ≡ i'
    go (inl e) =
        let r = in_range s j f.closes in
        let l = length-slice (suc i) j s (omega arith) in
        let l' = length-slice (suc i') j s (omega arith) in
        omega (arith, ap length e, f.order, f'.order)
    go (inr (z, e)) = absurd (not-hex c z SOI c' (hexy-frame h n c f.frame) soi-odd e)

-- what stands at the front of a list stands there in the list
pub info-front : (s c : List ℕ) (n : ℕ) → take (length c) s ≡ c → 12 + n ≤ length c → info_at n s ≡ info_at n c
info-front s c n e h =
    let d = drop (length c) s in
    let whole : s ≡ c ++ d = sym (take-append-drop (length c) s) ∙ ap (λ (x : List ℕ). x ++ d) e in
    ap (info_at n) whole
    ∙ ap (take n) (drop-append-le 12 c d (omega arith))
    ∙ take-append-le n (drop 12 c) d (omega (arith, length-drop 12 c))

-- the store after a byte is that of the step over it
pub store_then : (store s : List ℕ) (j : ℕ) → j < length s
    → store_at store s j ≡ (step (after Waiting store (take j s)).next (after Waiting store (take j s)).store (get_or s j 0)).store
unfolding store_at after
store_then store s j h =
    ap (λ (x : List ℕ). (after Waiting store x).store) (take-suc s j 0 h) ∙ ap (λ (a : After). a.store) (after-join (take j s) (get_or s j 0 ∷ []) Waiting store)

-- when a frame is told, its INFO characters stand in the store at places 12 to 11 + LENID
pub info-in-store : (store s : List ℕ) (i j : ℕ) (h : Header) (n : ℕ) → 4110 ≤ length store → Stretch s i j h n
    → info_at n (store_at store s j) ≡ info_at n (slice (suc i) j s)
unfolding told_at
info-in-store store s i j h n room f =
    let r = stands store (take j s) (get_or s j 0) h n room ((exactly store s j h n room).1 (i, f)) in
    let k = stretch s j h n r.0 in
    let one : length r.0.1 ≡ i = one-soi s (length r.0.1) i j h h n n k.0 f in
    let c : r.0.2 ≡ slice (suc i) j s = sym k.1 ∙ ap (λ (x : ℕ). slice (suc x) j s) one in
    let w = whole-count r.0.2 (h, r.0.4.0, r.0.4.1) in
    ap (info_at n) (store_then store s j (in_range s j f.closes))
    ∙ info-front (step (after Waiting store (take j s)).next (after Waiting store (take j s)).store (get_or s j 0)).store r.0.2 n r.1 (lenid-room r.0.2 h n r.0.4)
    ∙ ap (info_at n) c
  where
    lenid-room : (c : List ℕ) (h : Header) (n : ℕ) → Frames h n c → 12 + n ≤ length c
    lenid-room c h n f = omega (arith, f.2, ap length f.1.is, length-chars h f.0)

-- SOI, characters and CR, and what comes before and behind them
unfoldable pub wire : List ℕ → List ℕ → List ℕ → List ℕ
wire pre c post = pre ++ SOI ∷ (c ++ CR ∷ post)

last : List ℕ → List ℕ → ℕ
last pre c = length pre + suc (length c)

closes : (pre c post : List ℕ) (h : Header) (n : ℕ) → Frames h n c → Closes (take (last pre c) (wire pre c post)) (get_or (wire pre c post) (last pre c) 0) h n
unfolding wire last
closes pre c post h n f = (
  get_or-append-add pre (SOI ∷ (c ++ CR ∷ post)) (suc (length c)) 0 ∙ get_or-append_seam c CR post 0,
  pre,
  c,
  take-append-add pre (SOI ∷ (c ++ CR ∷ post)) (suc (length c)) ∙ ap (λ (x : List ℕ). pre ++ SOI ∷ x) (take_at c (CR ∷ post) (length c) refl),
  f,
)

-- the characters of a frame in a stream are a stretch of it
pub stretch-of : (pre c post : List ℕ) (h : Header) (n : ℕ) → Frames h n c → (i j : ℕ) → length pre ≡ i → j ≡ i + suc (length c)
    → Stretch (wire pre c post) i j h n × (slice (suc i) j (wire pre c post) ≡ c)
unfolding last closes
stretch-of pre c post h n f i j e q =
    let r = closes pre c post h n f in
    let at : last pre c ≡ j = omega arith in
    subst (λ (k : ℕ). Stretch (wire pre c post) k j h n × (slice (suc k) j (wire pre c post) ≡ c)) e
    (subst (λ (k : ℕ). Stretch (wire pre c post) (length pre) k h n × (slice (suc (length pre)) k (wire pre c post) ≡ c)) at (stretch (wire pre c post) (last pre c) h n r))

-- whatever came before, a frame that is sent is told at its CR: a broken reply never costs the next good one
pub sent : (store pre c post : List ℕ) (h : Header) (n : ℕ) → 4110 ≤ length store → Frames h n c
    → told_at store (pre ++ SOI ∷ (c ++ CR ∷ post)) (length pre + suc (length c)) ≡ frame h n
unfolding told_at wire last
sent store pre c post h n room f =
    (heard store (take (last pre c) (wire pre c post)) (get_or (wire pre c post) (last pre c) 0) h n room).1 (closes pre c post h n f)

-- ---- a stretch of any characters: where a frame in it would be

-- x stands before a CR of the stretch: its own, or one among its characters
abbrev Before : List ℕ → List ℕ → Type 0
Before w x = (x ≡ w) ⊎ ((y : List ℕ) × (w ≡ x ++ CR ∷ y))

before-in : (w post : List ℕ) (m : ℕ) → m ≤ length w → get_or (w ++ CR ∷ post) m 0 ≡ CR → Before w (take m (w ++ CR ∷ post))
before-in w post m h e =
    elim (dec_lt m (length w)) [
      | yes l ↦
          let g : get_or w m 0 ≡ CR = sym (get_or-append w (CR ∷ post) 0 m l) ∙ e in
          inr (drop (suc m) w, rw (take-append-le m w (CR ∷ post) h) (split_at w m 0 l ∙ ap (λ (b : ℕ). take m w ++ b ∷ drop (suc m) w) g))
      | no l ↦ inl (take_at w (CR ∷ post) m (omega arith))
    ]

module _ (pre w post : List ℕ) (none : (x d : List ℕ) → Before w x → Since x d → Whole d → ⊥) where
  -- no whole encoding ends in it
  none-ends : (i m : ℕ) (h : Header) (n : ℕ) → m ≤ suc (length w) → Stretch (wire pre w post) i (length pre + m) h n → ⊥
  unfolding wire
  none-ends i zero h n l f = omega (arith, f.closes, get_or-append-add pre (SOI ∷ (w ++ CR ∷ post)) 0 0)
  none-ends i (suc m) h n l f =
      let t = w ++ CR ∷ post in
      let s = wire pre w post in
      let c = slice (suc i) (length pre + suc m) s in
      none (take m t) c
      (before-in w post m (omega arith) (sym (get_or-append-add pre (SOI ∷ t) (suc m) 0) ∙ f.closes))
      (since pre (take m t) (take i s) c (hexy-frame h n c f.frame) (sym (take-append-add pre (SOI ∷ t) (suc m)) ∙ cut-stretch s i (length pre + suc m) h n f))
      (h, f.frame.0, f.frame.1)

  -- none goes on behind it: its CR would be a character
  none_over : (i j : ℕ) (h : Header) (n : ℕ) → i ≤ last pre w → last pre w < j → Stretch (wire pre w post) i j h n → ⊥
  unfolding wire last
  none_over i j h n a b f =
      let s = wire pre w post in
      let c = slice (suc i) j s in
      let at = last pre w in
      let k = at - suc i in
      let ends : get_or s at 0 ≡ CR = get_or-append-add pre (SOI ∷ (w ++ CR ∷ post)) (suc (length w)) 0 ∙ get_or-append_seam w CR post 0 in
      elim (dec_lt i at) [
        | no m ↦ let e : i ≡ at = omega arith in omega (arith, f.opens, ap (λ (x : ℕ). get_or s x 0) e, ends)
        | yes m ↦
            let g : get_or c k 0 ≡ CR =
            get_or-drop (suc i) (take j s) k 0
            ∙ get_or-take j s (suc i + k) 0 (omega arith)
            ∙ ap (λ (x : ℕ). get_or s x 0) (let e : suc i + k ≡ at = omega arith in e)
            ∙ ends in
            let t = length-slice (suc i) j s (omega (arith, in_range s j f.closes)) in
            not-hex c (take k c) CR (drop (suc k) c) (hexy-frame h n c f.frame) cr-odd
            (split_at c k 0 (omega (arith, t)) ∙ ap (λ (x : ℕ). take k c ++ x ∷ drop (suc k) c) g)
      ]

  -- so each ends before it or begins behind it
  apart : (i j : ℕ) (h : Header) (n : ℕ) → Stretch (wire pre w post) i j h n → (j < length pre) ⊎ (last pre w < i)
  unfolding last
  apart i j h n f =
      elim (dec_lt j (length pre)) [
        | yes p ↦ inl p
        | no p ↦
            elim (dec_lt (last pre w) i) [
              | yes q ↦ inr q
              | no q ↦
                  elim (dec_lt (last pre w) j) [
                    | yes r ↦ absurd (none_over i j h n (omega arith) r f)
                    | no r ↦
                        let m = j - length pre in
                        absurd (none-ends i m h n (omega arith) (subst (λ (x : ℕ). Stretch (wire pre w post) i x h n) (let e : j ≡ length pre + m = omega arith in e) f))
                  ]
            ]
      ]

-- among hex characters there is no whole encoding but all of them
pub only-all : (v : List ℕ) → Hexy v → (Whole v → ⊥) → (u d : List ℕ) → Before v u → Since u d → Whole d → ⊥
only-all v h none u d (inl e) (inl f) q = none (subst Whole (sym f ∙ e) q)
only-all v h none u d (inl e) (inr (z, f)) q = not-hex v z SOI d h soi-odd (sym e ∙ f)
only-all v h none u d (inr (t, e)) s q = not-hex v u CR t h cr-odd e

-- ---- one character changed, lost or doubled, in a whole encoding x, a, y

module _ (x : List ℕ) (a : ℕ) (y : List ℕ) (w : Whole (x ++ a ∷ y)) where
  parts : Hexy x × Hexy (a ∷ y)
  parts = hexy-cut x (a ∷ y) (whole-good (x ++ a ∷ y) w).hexy

  changed : (b : ℕ) → (b ≡ SOI → lenid (x ++ a ∷ y) ≤ 936) → a ≢ b → (u d : List ℕ) → Before (x ++ b ∷ y) u → Since u d → Whole d → ⊥
  changed b short ne u d (inl e) (inl f) v = ne (whole-one-place x a b y w (subst Whole (sym f ∙ e) v))
  changed b short ne u d (inl e) (inr (z, f)) v =
      let k = odd-one x b y z SOI d parts.0 parts.1.1 soi-odd (sym e ∙ f) in
      whole-suffix x a y w (short k.1) (subst Whole k.2 v)
  changed b short ne u d (inr (t, e)) (inl f) v =
      let k = odd-one x b y u CR t parts.0 parts.1.1 cr-odd e in
      whole-prefix x a y (subst Whole (sym f ∙ k.0) v) w
  changed b short ne u d (inr (t, e)) (inr (z, f)) v =
      let k = odd-one x b y u CR t parts.0 parts.1.1 cr-odd e in
      not-hex x z SOI d parts.0 soi-odd (sym k.0 ∙ f)

  drops : (u d : List ℕ) → Before (x ++ y) u → Since u d → Whole d → ⊥
  drops =
      let k = whole-count (x ++ a ∷ y) w in
      only-all (x ++ y) (hexy-join x y parts.0 parts.1.1) (λ q. omega (arith, whole-count (x ++ y) q, length-append x y, length-append x (a ∷ y)))

  repeats : (u d : List ℕ) → Before (x ++ a ∷ a ∷ y) u → Since u d → Whole d → ⊥
  repeats =
      let k = whole-count (x ++ a ∷ y) w in
      only-all (x ++ a ∷ a ∷ y) (hexy-join x (a ∷ a ∷ y) parts.0 (parts.1.0, parts.1))
      (λ q. omega (arith, whole-count (x ++ a ∷ a ∷ y) q, length-append x (a ∷ a ∷ y), length-append x (a ∷ y)))

pub doubled-at : (s : List ℕ) (k : ℕ) → k < length s → doubled k s ≡ take k s ++ get_or s k 0 ∷ get_or s k 0 ∷ drop (suc k) s
doubled-at s k h =
    let a = get_or s k 0 in
    (λ z. take-suc s k 0 h z ++ drop-cons s k 0 h z) ∙ append_snoc (take k s) a (a ∷ drop (suc k) s)

-- ---- the same in a stream, between the SOI at i and the CR at j of a whole encoding

module _ (s : List ℕ) (i j : ℕ) (h : Header) (n : ℕ) (f : Stretch s i j h n) where
  pub long : j < length s
  long = in_range s j f.closes

  pub size : length (slice (suc i) j s) ≡ 16 + n
  size = omega (arith, f.frame.2, ap length f.frame.1.is, length-chars h f.frame.0)

  pub span : j ≡ i + (17 + n)
  span = omega (arith, size, length-slice (suc i) j s (omega (arith, long)), f.order)

  pub whole_of : Whole (slice (suc i) j s)
  whole_of = (h, f.frame.0, f.frame.1)

  pub lenid-of : lenid (slice (suc i) j s) ≡ n
  lenid-of = (chars-read h f.frame.0 (slice (suc i) j s) f.frame.1).2 ∙ sym f.frame.2

  pub left : (p : ℕ) → p ≤ j → drop p s ≡ slice p j s ++ CR ∷ drop (suc j) s
  left p l =
      ap (drop p) (split_at s j 0 long)
      ∙ drop-append-le p (take j s) (get_or s j 0 ∷ drop (suc j) s) (omega (arith, length-take-le j s (omega (arith, long))))
      ∙ ap (λ (b : ℕ). slice p j s ++ b ∷ drop (suc j) s) f.closes

  -- with w in the place of its characters, and no whole encoding in them
  pub none_in : (w t : List ℕ) → t ≡ wire (take i s) w (drop (suc j) s) → ((u d : List ℕ) → Before w u → Since u d → Whole d → ⊥)
      → (ends : ℕ) → ends ≡ i + suc (length w) → (l e : ℕ) (g : Header) (q : ℕ) → Stretch t l e g q → (e < i) ⊎ (ends < l)
  unfolding last
  none_in w t is none ends at l e g q d =
      let pre = length-take-le i s (omega (arith, long, f.order)) in
      go (length (take i s)) (last (take i s) w) pre (omega (arith, pre)) (apart (take i s) w (drop (suc j) s) none l e g q (subst (λ (z : List ℕ). Stretch z l e g q) is d))
    where
      go : (p r : ℕ) → p ≡ i → r ≡ ends → (e < p) ⊎ (r < l) → (e < i) ⊎ (ends < l)
      go p r u v (inl z) = inl (omega arith)
      go p r u v (inr z) = inr (omega arith)

  -- at place k
  module _ (k : ℕ) (behind : i < k) (before : k < j) where
    -- the characters before it, and those behind it
    abbrev pub x : List ℕ
    x = slice (suc i) k s

    abbrev pub y : List ℕ
    y = slice (suc k) j s

    pub parted : slice (suc i) j s ≡ x ++ get_or s k 0 ∷ y
    parted =
        let at : take j s ≡ take k s ++ get_or s k 0 ∷ y =
        split_at (take j s) k 0 (omega (arith, length-take-le j s (omega (arith, long)))) ∙ (λ t. take-take k j s (omega arith) t ++ get_or-take j s k 0 before t ∷ y) in
        ap (drop (suc i)) at ∙ drop-append-le (suc i) (take k s) (get_or s k 0 ∷ y) (omega (arith, length-take-le k s (omega (arith, long))))

    pub whole : Whole (x ++ get_or s k 0 ∷ y)
    whole = subst Whole parted whole_of

    lenid-is : lenid (x ++ get_or s k 0 ∷ y) ≡ n
    lenid-is = ap lenid (sym parted) ∙ lenid-of

    -- with m in the place of the character
    pub within : (m : List ℕ) → take k s ++ (m ++ drop (suc k) s) ≡ wire (take i s) (x ++ (m ++ y)) (drop (suc j) s)
    unfolding wire
    within m =
        let post = drop (suc j) s in
        (λ t. cut s i k behind (omega (arith, long)) f.opens t ++ (m ++ left (suc k) before t))
        ∙ append_assoc (take i s) (SOI ∷ x) (m ++ (y ++ CR ∷ post))
        ∙ ap (λ (z : List ℕ). take i s ++ SOI ∷ (x ++ z)) (sym (append_assoc m y (CR ∷ post)))
        ∙ ap (λ (z : List ℕ). take i s ++ SOI ∷ z) (sym (append_assoc x (m ++ y) (CR ∷ post)))

    damaged : (m : List ℕ) → ((u d : List ℕ) → Before (x ++ (m ++ y)) u → Since u d → Whole d → ⊥) → (ends : ℕ) → suc ends ≡ j + length m
        → (l e : ℕ) (g : Header) (q : ℕ) → Stretch (take k s ++ (m ++ drop (suc k) s)) l e g q → (e < i) ⊎ (ends < l)
    damaged m none ends at =
        let size =
        length-append x (m ++ y) ∙ (λ z. length-slice (suc i) k s (omega (arith, long)) z + (length-append m y ∙ ap (λ (w : ℕ). length m + w) (length-slice (suc k) j s (omega (arith, long)))) z) in
        none_in (x ++ (m ++ y)) (take k s ++ (m ++ drop (suc k) s)) (within m) none ends (omega (arith, size))

    -- it becomes any other byte, and INFO has at most 936 characters where that byte is a tilde: each whole encoding ends before the stretch or begins behind it
    pub one_changed : (b : ℕ) → (b ≡ SOI → n ≤ 936) → b ≢ get_or s k 0 → (l e : ℕ) (g : Header) (q : ℕ) → Stretch (set s k b) l e g q → (e < i) ⊎ (j < l)
    one_changed b short ne l e g q t =
        damaged (b ∷ []) (changed x (get_or s k 0) y whole b (λ z. rw lenid-is (short z)) (λ z. ne (sym z))) j (omega arith) l e g q
        (subst (λ (z : List ℕ). Stretch z l e g q) (set_split s k b (omega (arith, long))) t)

    -- it is lost
    pub one_lost : (l e : ℕ) (g : Header) (q : ℕ) → Stretch (lost k s) l e g q → (e < i) ⊎ (j - 1 < l)
    one_lost = damaged [] (drops x (get_or s k 0) y whole) (j - 1) (omega arith)

    -- it is sent twice in a row
    pub one_doubled : (l e : ℕ) (g : Header) (q : ℕ) → Stretch (doubled k s) l e g q → (e < i) ⊎ (suc j < l)
    one_doubled l e g q t =
        let a = get_or s k 0 in
        damaged (a ∷ a ∷ []) (repeats x a y whole) (suc j) (omega arith) l e g q
        (subst (λ (z : List ℕ). Stretch z l e g q) (doubled-at s k (omega (arith, long))) t)
