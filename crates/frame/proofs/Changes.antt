-- What tells one whole encoding from another that is nearly the same: CHKSUM covers LENGTH too, so two sealed lists that differ at one place do not differ.
use Rattle.std.proofs.Common.{◌≡◌, ℕ, ◌+◌, ◌*◌, ◌%◌, ◌<◌, ◌≤◌, cond, ltb, List, [], ◌∷◌, ◌++◌, length, drop, sym, refl, ap, ◌∙◌, subst, inl, inr, append_assoc, arith, ltb→lt, nltb→le, length-append}
use mathlib.Core.List.{head-eq_of_cons-eq, tail-eq_of_cons-eq}
use Rattle.std.proofs.lemmas.List.{append_cancel_left}
use Rattle.std.proofs.Math.ListN.{get_or-append}
use Rattle.std.proofs.Math.Seq.{append_snoc}
use Rattle.buffer.proofs.Lists.{by_cond, cancel, levi, Levi}
use Rattle.hex_chars.specs.Hex.{hexes, word, byte_at, word_at, unhexes, Bytes}
use Rattle.hex_chars.proofs.Laws.{Hexy, hexy-cut, said-range, length-hexes, unhexes-hexes, word-hexes}
use Rattle.frame.specs.declared.Header.{Header}
use Rattle.frame.specs.Frame.{length_of, chksum, packed, seal, chars, Encodes, Whole}
use Rattle.frame.specs.Judge.{refused, lenid, judge}
use Rattle.std.specs.List.{sum}
use Rattle.frame.proofs.Steps.{sum-join, sum-more}
use Rattle.frame.proofs.Judging.{chars-read, length-fits, chksum-fits, bytes_packed, short-refused, count-refused, whole-good, whole-count}

-- ---- a sealed list: characters and their CHKSUM

pub tail : List ℕ → List ℕ
tail b = hexes (word (chksum b))

length-tail : (b : List ℕ) → length (tail b) ≡ 4
unfolding tail
length-tail b = length-hexes (word (chksum b))

pub tail-word : (b : List ℕ) → word_at (tail b) 0 ≡ chksum b
unfolding tail
tail-word b = word-hexes (chksum b) (chksum-fits b)

-- the last four characters say what the sum is
tail-sum : (b d : List ℕ) → tail b ≡ tail d → sum b % 65536 ≡ sum d % 65536
unfolding chksum
tail-sum b d e = let w : chksum b ≡ chksum d = sym (tail-word b) ∙ ap (λ (x : List ℕ). word_at x 0) e ∙ tail-word d in omega arith

seal-is : (b : List ℕ) → b ++ tail b ≡ seal b
unfolding seal tail
seal-is b = refl

-- one seal: the body and the last four
pub seal-cut : (s t b : List ℕ) → length t ≡ 4 → s ++ t ≡ seal b → (s ≡ b) × (t ≡ tail b)
unfolding seal tail
seal-cut s t b l e = cancel s t b (tail b) (l ∙ sym (length-tail b)) e

-- two sealed lists that differ at one place at most do not differ there
one_place : (x : List ℕ) (a a' : ℕ) (y b b' : List ℕ) → a < 65536 → a' < 65536
    → x ++ a ∷ y ≡ seal b → x ++ a' ∷ y ≡ seal b' → a ≡ a'
unfolding seal tail
one_place x a a' y b b' h h' e e' = go (levi b (tail b) x (a ∷ y) (sym e))
  where
    go : Levi b (tail b) x (a ∷ y) → a ≡ a'
    -- in the CHKSUM: the bodies are one, so their seals are
    go (inl (z, p, q)) =
        let l : length (z ++ a' ∷ y) ≡ 4 = omega (arith, length-append z (a' ∷ y), length-append z (a ∷ y), ap length q, length-tail b) in
        let k = seal-cut b (z ++ a' ∷ y) b' l (sym (append_assoc b z (a' ∷ y)) ∙ ap (λ (t : List ℕ). t ++ a' ∷ y) (sym p) ∙ e') in
        head-eq_of_cons-eq (append_cancel_left z (a ∷ y) (a' ∷ y) (sym q ∙ ap tail k.0 ∙ sym k.1))
    -- in the body: the CHKSUM is one, so the sums are
    go (inr (w, z, p, q)) =
        let k = seal-cut (x ++ a' ∷ z) (tail b) b' (length-tail b)
        (append_assoc x (a' ∷ z) (tail b) ∙ ap (λ (t : List ℕ). x ++ a' ∷ t) (sym (tail-eq_of_cons-eq q)) ∙ e') in
        omega (arith, tail-sum b b' k.1, head-eq_of_cons-eq q, ap sum p, ap sum k.0, sum-join x (w ∷ z), sum-join x (a' ∷ z), sum-more w z, sum-more a' z)

sum-range : (c : List ℕ) → Hexy c → (48 * length c ≤ sum c) × (sum c ≤ 70 * length c)
sum-range [] h = (omega arith, omega arith)
sum-range (x ∷ c) h =
    let r = sum-range c h.1 in
    let q = said-range x h.0 in
    (omega (arith, sum-more x c), omega (arith, sum-more x c))

shift : (m s : ℕ) → s % 65536 ≡ (m + s) % 65536 → 0 < m → 65536 ≤ m
shift m s e h = omega arith

-- a sealed list that ends in another is at least 937 characters longer: each adds 70 at most, and together they add 65,536
suffix : (x : List ℕ) (a : ℕ) (b d : List ℕ) → Hexy (x ++ a ∷ []) → x ++ a ∷ seal d ≡ seal b → 936 ≤ length x
unfolding seal tail
suffix x a b d h e =
    let k = seal-cut (x ++ a ∷ d) (tail d) b (length-tail d) (append_assoc x (a ∷ d) (tail d) ∙ e) in
    let r = sum-range (x ++ a ∷ []) h in
    let z : sum d % 65536 ≡ (sum x + a + sum d) % 65536 = omega (arith, tail-sum d b k.1, ap sum k.0, sum-join x (a ∷ d), sum-more a d) in
    let m : sum (x ++ a ∷ []) ≡ sum x + a = omega (arith, sum-join x (a ∷ [])) in
    let l : length (x ++ a ∷ []) ≡ length x + 1 = length-append x (a ∷ []) in
    omega (arith, shift (sum x + a) (sum d) z (omega arith))

-- ---- whole encodings

pub whole-seal : (c : List ℕ) → Whole c → (b : List ℕ) × (c ≡ seal b)
unfolding chars
whole-seal c w = (hexes (packed w.0 (length_of (2 * length w.1)) w.1), w.2.is)

-- one place changed
pub whole-one-place : (x : List ℕ) (a a' : ℕ) (y : List ℕ) → Whole (x ++ a ∷ y) → Whole (x ++ a' ∷ y) → a ≡ a'
whole-one-place x a a' y w w' =
    let s = whole-seal (x ++ a ∷ y) w in
    let s' = whole-seal (x ++ a' ∷ y) w' in
    let r = said-range a (hexy-cut x (a ∷ y) (whole-good (x ++ a ∷ y) w).hexy).1.0 in
    let r' = said-range a' (hexy-cut x (a' ∷ y) (whole-good (x ++ a' ∷ y) w').hexy).1.0 in
    one_place x a a' y s.0 s'.0 (omega arith) (omega arith) s.1 s'.1

-- LENGTH stands in the first twelve characters, so no whole encoding begins another
length-prefix : (x t : List ℕ) → 12 ≤ length x → word_at (x ++ t) 8 ≡ word_at x 8
unfolding word_at byte_at
length-prefix x t h =
    cc (get_or-append x t 0 8 (omega arith), get_or-append x t 0 9 (omega arith), get_or-append x t 0 10 (omega arith), get_or-append x t 0 11 (omega arith))

lenid-prefix : (x t : List ℕ) → 12 ≤ length x → lenid (x ++ t) ≡ lenid x
unfolding lenid
lenid-prefix x t h = ap (λ (w : ℕ). w % 4096) (length-prefix x t h)

pub whole-prefix : (x : List ℕ) (a : ℕ) (y : List ℕ) → Whole x → Whole (x ++ a ∷ y) → ⊥
whole-prefix x a y w v =
    let p = whole-count x w in
    let q = whole-count (x ++ a ∷ y) v in
    omega (arith, lenid-prefix x (a ∷ y) (omega arith), length-append x (a ∷ y))

-- the front of one is too short, or LENGTH asks for more
pub prefix-refused : (x : List ℕ) (a : ℕ) (y : List ℕ) → Whole (x ++ a ∷ y) → judge x ≡ refused (cond (ltb (length x) 16) 3 7)
prefix-refused x a y w =
    let g = whole-good (x ++ a ∷ y) w in
    by_cond (λ (n : ℕ). judge x ≡ refused n) (ltb (length x) 16)
    (λ t. short-refused x (ltb→lt (length x) 16 t))
    (λ t. let long = nltb→le (length x) 16 t in
    let same = length-prefix x (a ∷ y) (omega arith) in
    let n = lenid-prefix x (a ∷ y) (omega arith) in
    let size = length-append x (a ∷ y) in
    count-refused x (hexy-cut x (a ∷ y) g.hexy).0 long (omega (arith, g.few)) (cc (g.lchk, same, n)) (omega (arith, g.even)) (λ e. omega (arith, g.count)))

-- no short one ends in another, but for one character before that
pub whole-suffix : (x : List ℕ) (a : ℕ) (y : List ℕ) → Whole (x ++ a ∷ y) → lenid (x ++ a ∷ y) ≤ 936 → Whole y → ⊥
whole-suffix x a y w l v =
    let s = whole-seal (x ++ a ∷ y) w in
    let t = whole-seal y v in
    let h : Hexy (x ++ a ∷ []) = (hexy-cut (x ++ a ∷ []) y (subst Hexy (sym (append_snoc x a y)) (whole-good (x ++ a ∷ y) w).hexy)).0 in
    let k = suffix x a s.0 t.0 h (ap (λ (r : List ℕ). x ++ a ∷ r) (sym t.1) ∙ s.1) in
    let p = whole-count (x ++ a ∷ y) w in
    let q = whole-count y v in
    omega (arith, length-append x (a ∷ y))

-- ---- at most one header and INFO for each stretch

pub encodes_one : (h h' : Header) (info info' c : List ℕ) → Encodes h info c → Encodes h' info' c → (h ≡ h') × (info ≡ info')
unfolding chars packed
encodes_one h h' info info' c e e' =
    let b = bytes h info c e in
    let b' = bytes h' info' c e' in
    let k = seal-cut (hexes b.0) (tail (hexes b.0)) (hexes b'.0) (length-tail (hexes b.0)) (seal-is (hexes b.0) ∙ sym e.is ∙ e'.is) in
    let p : b.0 ≡ b'.0 = sym (unhexes-hexes b.0 b.1) ∙ ap unhexes k.0 ∙ unhexes-hexes b'.0 b'.1 in
    (sym (chars-read h info c e).1 ∙ (chars-read h' info' c e').1, ap (drop 6) p)
  where
    bytes : (h : Header) (info c : List ℕ) → Encodes h info c → (b : List ℕ) × Bytes b
    bytes h info c e =
        let l = length_of (2 * length info) in
        (packed h l info, bytes_packed h l info e.head (length-fits (2 * length info) (omega (arith, e.short))) e.body)
