-- Two neighbours exchanged: where LENGTH and CHKSUM stay, the sum does not see it; where one of the two stands in them, not both orders are whole encodings.
use Rattle.std.proofs.Common.{◌≡◌, ℕ, zero, suc, ◌+◌, ◌-◌, ◌*◌, ◌%◌, ◌<◌, ◌≤◌, ◌⊎◌, List, [], ◌∷◌, ◌++◌, length, get_or, take, drop, sym, ap, ◌∙◌, subst, inl, inr, append_assoc, arith, length-append, length-drop, take-append-drop, length-take-le, take_at, get_or-append-add}
use mathlib.Core.List.{head-eq_of_cons-eq}
use Rattle.std.proofs.lemmas.List.{append_cancel_left}
use Rattle.std.proofs.Math.Decide.{dec_lt}
use Rattle.std.proofs.Math.ListN.{get_or-append}
use Rattle.std.proofs.Math.Seq.{append_snoc, get_or-append_seam}
use Rattle.hex_chars.specs.Hex.{digit_of, char_of, byte_of, byte_at, word_at}
use Rattle.hex_chars.proofs.Laws.{said, Hexy, hexy-cut, hexy-join, digit_char, digit-small, digit-said, char-said, said-range, word-seam}
use Rattle.frame.specs.Frame.{length_of, chksum, Whole, Frames}
use Rattle.frame.specs.Judge.{header, lenid}
use Rattle.std.specs.List.{sum}
use Rattle.frame.proofs.Steps.{sum-join, sum-more}
use Rattle.frame.proofs.Judging.{Good, good-judge, judge-accepts, length_whole, whole-good}
use Rattle.frame.proofs.Changes.{tail, tail-word, seal-cut, whole-seal}

-- ---- the four characters of LENGTH

abbrev SameLength : List ℕ → List ℕ → Type 0
SameLength c d = (k : ℕ) → k < 4 → get_or c (8 + k) 0 ≡ get_or d (8 + k) 0

length-word : (c d : List ℕ) → SameLength c d → word_at c 8 ≡ word_at d 8
unfolding word_at byte_at
length-word c d same = cc (same 0 (omega arith), same 1 (omega arith), same 2 (omega arith), same 3 (omega arith))

hexy-at : (c : List ℕ) (n : ℕ) → Hexy c → n < length c → said (get_or c n 0) < 16
hexy-at [] n h l = absurd (omega arith)
hexy-at (x ∷ c) zero h l = h.0
hexy-at (x ∷ c) (suc n) h l = hexy-at c n h.1 (omega arith)

-- a digit has one character
one_char : (p q : ℕ) → said p < 16 → said q < 16 → digit_of p ≡ digit_of q → p ≡ q
one_char p q h k e = sym (char-said p h) ∙ ap char_of (sym (digit-said p h) ∙ e ∙ digit-said q k) ∙ char-said q k

word-length : (c d : List ℕ) → Hexy c → Hexy d → 16 ≤ length c → 16 ≤ length d → word_at c 8 ≡ word_at d 8 → SameLength c d
unfolding word_at byte_at byte_of
word-length c d h g l m e = at
  where
    s : (k : ℕ) → digit_of (get_or c (8 + k) 0) < 16
    s k = digit-small (get_or c (8 + k) 0)

    t : (k : ℕ) → digit_of (get_or d (8 + k) 0) < 16
    t k = digit-small (get_or d (8 + k) 0)

    one : (k : ℕ) → k < 4 → digit_of (get_or c (8 + k) 0) ≡ digit_of (get_or d (8 + k) 0) → get_or c (8 + k) 0 ≡ get_or d (8 + k) 0
    one k few q = one_char (get_or c (8 + k) 0) (get_or d (8 + k) 0) (hexy-at c (8 + k) h (omega arith)) (hexy-at d (8 + k) g (omega arith)) q

    at : SameLength c d
    at zero few = one 0 few (omega (arith, e, s 0, s 1, s 2, s 3, t 0, t 1, t 2, t 3))
    at (suc zero) few = one 1 few (omega (arith, e, s 0, s 1, s 2, s 3, t 0, t 1, t 2, t 3))
    at (suc (suc zero)) few = one 2 few (omega (arith, e, s 0, s 1, s 2, s 3, t 0, t 1, t 2, t 3))
    at (suc (suc (suc zero))) few = one 3 few (omega (arith, e, s 0, s 1, s 2, s 3, t 0, t 1, t 2, t 3))
    at (suc (suc (suc (suc k)))) few = absurd (omega arith)

-- whole encodings that are as long have one LENGTH
one-length : (c d : List ℕ) → Whole c → Whole d → length c ≡ length d → SameLength c d
unfolding lenid
one-length c d w v e =
    let g = whole-good c w in
    let k = whole-good d v in
    let n : lenid c ≡ lenid d = omega (arith, g.count, k.count) in
    word-length c d g.hexy k.hexy g.long k.long (length_whole (word_at c 8) g.lchk ∙ ap length_of n ∙ sym (length_whole (word_at d 8) k.lchk))

-- ---- the sum of all characters and CHKSUM is 0, in its three low digits too

sum-snoc : (x : List ℕ) (p : ℕ) → sum (x ++ p ∷ []) ≡ sum x + p
sum-snoc x p = omega (arith, sum-join x (p ∷ []))

low-digits : (c : List ℕ) (s p d r : ℕ) → sum c ≡ s + p → d * 4096 + r ≡ chksum c → (s + r + p) % 4096 ≡ 0
unfolding chksum
low-digits c s p d r e h = omega arith

near : (t a b : ℕ) → (t + a) % 4096 ≡ 0 → (t + b) % 4096 ≡ 0 → (48 ≤ a) × (a ≤ 70) → (48 ≤ b) × (b ≤ 70) → a ≡ b
near t a b e f h k = omega arith

-- ---- characters a and b, between x and y

module _ (x : List ℕ) (a b : ℕ) (y : List ℕ) where
  -- both before LENGTH, or both behind it
  abbrev pub Beside : Type 0
  Beside = (2 + length x ≤ 8) ⊎ (12 ≤ length x)

  same_length : Beside → SameLength (x ++ a ∷ b ∷ y) (x ++ b ∷ a ∷ y)
  same_length (inl h) k l =
      let j = 8 + k - (2 + length x) in
      let at : 8 + k ≡ length x + suc (suc j) = omega arith in
      ap (λ (n : ℕ). get_or (x ++ a ∷ b ∷ y) n 0) at
      ∙ get_or-append-add x (a ∷ b ∷ y) (suc (suc j)) 0
      ∙ sym (get_or-append-add x (b ∷ a ∷ y) (suc (suc j)) 0)
      ∙ ap (λ (n : ℕ). get_or (x ++ b ∷ a ∷ y) n 0) (sym at)
  same_length (inr h) k l = get_or-append x (a ∷ b ∷ y) 0 (8 + k) (omega arith) ∙ sym (get_or-append x (b ∷ a ∷ y) 0 (8 + k) (omega arith))

  -- both before CHKSUM: what is summed, and what is read behind it
  module _ (room : 4 ≤ length y) where
    summed : List ℕ
    summed = take (length y - 4) y

    read_at : (p q m : ℕ) → 4 + m ≡ length (x ++ p ∷ q ∷ y) → (take m (x ++ p ∷ q ∷ y) ≡ x ++ p ∷ q ∷ summed) × (word_at (x ++ p ∷ q ∷ y) m ≡ word_at (drop (length y - 4) y) 0)
    unfolding summed
    read_at p q m e =
        let t = drop (length y - 4) y in
        let s = x ++ p ∷ q ∷ summed in
        let is : x ++ p ∷ q ∷ y ≡ s ++ t = ap (λ (l : List ℕ). x ++ p ∷ q ∷ l) (sym (take-append-drop (length y - 4) y)) ∙ sym (append_assoc x (p ∷ q ∷ summed) t) in
        let size : length s ≡ m = omega (arith, e, length-append x (p ∷ q ∷ y), length-append x (p ∷ q ∷ summed), length-take-le (length y - 4) y (omega arith)) in
        (ap (take m) is ∙ take_at s t m size, ap (λ (l : List ℕ). word_at l m) is ∙ ap (word_at (s ++ t)) (sym size) ∙ word-seam s t)

    one-sum : chksum (x ++ a ∷ b ∷ summed) ≡ chksum (x ++ b ∷ a ∷ summed)
    unfolding chksum
    one-sum =
        let e : sum (x ++ a ∷ b ∷ summed) ≡ sum (x ++ b ∷ a ∷ summed) = omega (arith, sum-join x (a ∷ b ∷ summed), sum-join x (b ∷ a ∷ summed), sum-more a (b ∷ summed), sum-more b (a ∷ summed), sum-more a summed, sum-more b summed) in
        ap (λ (s : ℕ). (65536 - s % 65536) % 65536) e

    good-exchanged : Beside → Good (x ++ a ∷ b ∷ y) → Good (x ++ b ∷ a ∷ y) × (lenid (x ++ a ∷ b ∷ y) ≡ lenid (x ++ b ∷ a ∷ y))
    unfolding lenid
    good-exchanged beside g =
        let c = x ++ a ∷ b ∷ y in
        let d = x ++ b ∷ a ∷ y in
        let w : word_at c 8 ≡ word_at d 8 = length-word c d (same_length beside) in
        let n : lenid c ≡ lenid d = ap (λ (l : ℕ). l % 4096) w in
        let l : length c ≡ length d = length-append x (a ∷ b ∷ y) ∙ sym (length-append x (b ∷ a ∷ y)) in
        let h = hexy-cut x (a ∷ b ∷ y) g.hexy in
        let before = read_at a b (12 + lenid c) (omega (arith, g.count)) in
        let behind = read_at b a (12 + lenid c) (omega (arith, g.count, l)) in
        let check : word_at d (12 + lenid c) ≡ chksum (take (12 + lenid c) d) =
        behind.1 ∙ sym before.1 ∙ g.check ∙ ap chksum before.0 ∙ one-sum ∙ ap chksum (sym behind.0) in (
          record {
            few = omega (arith, g.few, l);
            long = omega (arith, g.long, l);
            hexy = hexy-join x (b ∷ a ∷ y) h.0 (h.1.1.0, (h.1.0, h.1.1.1));
            lchk = cc (w, n, g.lchk);
            even = omega (arith, n, g.even);
            count = omega (arith, n, g.count, l);
            check = subst (λ (m : ℕ). word_at d (12 + m) ≡ chksum (take (12 + m) d)) n check;
          },
          n,
        )

    pub passes : Beside → Whole (x ++ a ∷ b ∷ y) → Frames (header (x ++ b ∷ a ∷ y)) (lenid (x ++ a ∷ b ∷ y)) (x ++ b ∷ a ∷ y)
    passes beside w =
        let d = x ++ b ∷ a ∷ y in
        let g = good-exchanged beside (whole-good (x ++ a ∷ b ∷ y) w) in
        subst (λ (n : ℕ). Frames (header d) n d) (sym g.1) ((judge-accepts d (header d) (lenid d)).0 (good-judge d g.0))

  -- ---- both whole encodings: the two are beside LENGTH and before CHKSUM, or equal

  module _ (w : Whole (x ++ a ∷ b ∷ y)) (v : Whole (x ++ b ∷ a ∷ y)) where
    one_size : length (x ++ a ∷ b ∷ y) ≡ length (x ++ b ∷ a ∷ y)
    one_size = length-append x (a ∷ b ∷ y) ∙ sym (length-append x (b ∷ a ∷ y))

    -- at its place either of them is in the other's
    in-length : 8 < 2 + length x → length x < 12 → a ≡ b
    in-length h l =
        let same = one-length (x ++ a ∷ b ∷ y) (x ++ b ∷ a ∷ y) w v one_size in
        elim (dec_lt (length x) 8) [
          | yes k ↦
              let at : 8 ≡ length x + 1 = omega arith in
              sym
              (sym (get_or-append-add x (a ∷ b ∷ y) 1 0)
              ∙ ap (λ (n : ℕ). get_or (x ++ a ∷ b ∷ y) n 0) (sym at)
              ∙ same 0 (omega arith)
              ∙ ap (λ (n : ℕ). get_or (x ++ b ∷ a ∷ y) n 0) at
              ∙ get_or-append-add x (b ∷ a ∷ y) 1 0)
          | no k ↦
              let j = length x - 8 in
              let at : 8 + j ≡ length x = omega arith in
              sym (get_or-append_seam x a (b ∷ y) 0)
              ∙ ap (λ (n : ℕ). get_or (x ++ a ∷ b ∷ y) n 0) (sym at)
              ∙ same j (omega arith)
              ∙ ap (λ (n : ℕ). get_or (x ++ b ∷ a ∷ y) n 0) at
              ∙ get_or-append_seam x b (a ∷ y) 0
        ]

    -- in CHKSUM: what is summed is one, so its CHKSUM is
    in-chksum : length y ≤ 2 → a ≡ b
    in-chksum h =
        let s = whole-seal (x ++ a ∷ b ∷ y) w in
        let t = whole-seal (x ++ b ∷ a ∷ y) v in
        let n = length x + length y - 2 in
        let front = take n x in
        let back = drop n x in
        let l = (whole-good (x ++ a ∷ b ∷ y) w).long in
        let cut : (p q : ℕ) → x ++ p ∷ q ∷ y ≡ front ++ (back ++ p ∷ q ∷ y) =
        λ p q. ap (λ (z : List ℕ). z ++ p ∷ q ∷ y) (sym (take-append-drop n x)) ∙ append_assoc front back (p ∷ q ∷ y) in
        let four : (p q : ℕ) → length (back ++ p ∷ q ∷ y) ≡ 4 =
        λ p q. omega (arith, length-append back (p ∷ q ∷ y), length-drop n x, l, length-append x (a ∷ b ∷ y)) in
        let e = seal-cut front (back ++ a ∷ b ∷ y) s.0 (four a b) (sym (cut a b) ∙ s.1) in
        let f = seal-cut front (back ++ b ∷ a ∷ y) t.0 (four b a) (sym (cut b a) ∙ t.1) in
        head-eq_of_cons-eq (append_cancel_left back (a ∷ b ∷ y) (b ∷ a ∷ y) (e.1 ∙ ap tail (sym e.0 ∙ f.0) ∙ sym f.1))

  first-digit : (d : ℕ) → word_at (d ∷ y) 0 ≡ digit_of d * 4096 + word_at (48 ∷ y) 0
  unfolding word_at byte_at byte_of char_of
  first-digit d = let zero-says : digit_of 48 ≡ 0 = digit_char 0 (omega arith) in omega arith

  -- one is the last that is summed, the other the first of CHKSUM: there it counts 4,096 times its digit, in the sum 48 to 70
  at-seam : Whole (x ++ a ∷ b ∷ y) → Whole (x ++ b ∷ a ∷ y) → length y ≡ 3 → a ≡ b
  at-seam w v h =
      let g = (hexy-cut x (a ∷ b ∷ y) (whole-good (x ++ a ∷ b ∷ y) w).hexy).1 in
      near (sum x + word_at (48 ∷ y) 0) a b (low a b w) (low b a v) (said-range a g.0) (said-range b g.1.0)
    where
      low : (p q : ℕ) → Whole (x ++ p ∷ q ∷ y) → (sum x + word_at (48 ∷ y) 0 + p) % 4096 ≡ 0
      low p q w =
          let s = whole-seal (x ++ p ∷ q ∷ y) w in
          let e = seal-cut (x ++ p ∷ []) (q ∷ y) s.0 (omega arith) (append_snoc x p (q ∷ y) ∙ s.1) in
          let check : word_at (q ∷ y) 0 ≡ chksum (x ++ p ∷ []) = ap (λ (l : List ℕ). word_at l 0) e.1 ∙ tail-word s.0 ∙ ap chksum (sym e.0) in
          low-digits (x ++ p ∷ []) (sum x) p (digit_of q) (word_at (48 ∷ y) 0) (sum-snoc x p) (sym (first-digit q) ∙ check)

  pub elsewhere : Whole (x ++ a ∷ b ∷ y) → Whole (x ++ b ∷ a ∷ y) → (a ≡ b) ⊎ (Beside × (4 ≤ length y))
  elsewhere w v =
      let long = (whole-good (x ++ a ∷ b ∷ y) w).long in
      let size = length-append x (a ∷ b ∷ y) in
      elim (dec_lt 6 (length x)) [
        | no h ↦ inr (inl (omega arith), omega (arith, long, size))
        | yes h ↦
            elim (dec_lt (length x) 12) [
              | yes l ↦ inl (in-length w v (omega arith) l)
              | no l ↦
                  elim (dec_lt (length y) 4) [
                    | no k ↦ inr (inr (omega arith), omega arith)
                    | yes k ↦
                        elim (dec_lt (length y) 3) [
                          | yes m ↦ inl (in-chksum w v (omega arith))
                          | no m ↦ inl (at-seam w v (omega arith))
                        ]
                  ]
            ]
      ]
