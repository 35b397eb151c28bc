-- Hex both ways: each digit has one character, and bytes are read back from theirs.
use Rattle.std.proofs.Common.{◌≡◌, ℕ, ◌+◌, ◌-◌, ◌*◌, ◌/◌, ◌%◌, ◌<◌, ◌≤◌, min, Bool, true, false, cond, ◌&&◌, ◌||◌, T, eqb, ltb, leb, List, [], ◌∷◌, ◌++◌, length, sym, refl, subst, arith, eqb→eq, ltb→lt, leb→le, nltb→le, T_not}
use Rattle.std.proofs.Math.Facts.{and_yes, yes_and}
use Rattle.buffer.proofs.Lists.{by_cond, below}
use Rattle.hex_chars.specs.Hex.{within, is_hex, digit_of, char_of, all_hex, pair_of, hexes, byte_of, unhexes, byte_at, word_at, word, Bytes}

-- ---- one character

-- the digit that a character says, 0 to 15, or 16 where it says none
unfoldable pub said : ℕ → ℕ
said c = cond (within "0" "9" c) (c - 48) (cond (within "A" "F" c) (c - 65 + 10) 16)

pub digit_char : (d : ℕ) → d < 16 → digit_of (char_of d) ≡ d
unfolding digit_of char_of
digit_char d h = eqb→eq (digit_of (char_of d)) d (below (λ d. eqb (digit_of (char_of d)) d) 16 tt d h)

pub said-char : (d : ℕ) → d < 16 → said (char_of d) ≡ d
unfolding said char_of
said-char d h = eqb→eq (said (char_of d)) d (below (λ d. eqb (said (char_of d)) d) 16 tt d h)

pub digit-small : (c : ℕ) → digit_of c < 16
unfolding digit_of
digit-small c =
    by_cond (λ (d : ℕ). d < 16) (within "0" "9" c) (λ t. omega (arith, leb→le c 57 (and_yes (leb 48 c) (leb c 57) t).1))
    (λ t. by_cond (λ (d : ℕ). d < 16) (within "A" "F" c) (λ v. omega (arith, leb→le c 70 (and_yes (leb 65 c) (leb c 70) v).1)) (λ v. omega arith))

pub ruleset small = (digit-small)

-- the same with no branch
pub reckoned : (c : ℕ) → c < 256 → (c % 16 + c / 64 * 9) % 16 ≡ digit_of c
unfolding digit_of
reckoned c h = eqb→eq ((c % 16 + c / 64 * 9) % 16) (digit_of c) (below (λ c. eqb ((c % 16 + c / 64 * 9) % 16) (digit_of c)) 256 tt c h)

abbrev bit : Bool → ℕ
bit true = 1
bit false = 0

one_bit : (a b : Bool) → bit a ≡ bit b → a ≡ b
one_bit true true e = refl
one_bit true false e = absurd (omega arith)
one_bit false true e = absurd (omega arith)
one_bit false false e = refl

-- how far a byte is above the digits and above the letters, counted round past 255
pub far_hex : (c : ℕ) → c < 256 → eqb (min ((c + 208) % 256 - 9) ((c + 191) % 256 - 5)) 0 ≡ is_hex c
unfolding is_hex
far_hex c h = one_bit (far c) (is_hex c) (eqb→eq (bit (far c)) (bit (is_hex c)) (below (λ c. eqb (bit (far c)) (bit (is_hex c))) 256 tt c h))
  where
    far : ℕ → Bool
    far c = eqb (min ((c + 208) % 256 - 9) ((c + 191) % 256 - 5)) 0

pub char-range : (d : ℕ) → d < 16 → (48 ≤ char_of d) × (char_of d ≤ 70)
unfolding char_of
char-range d h =
    let t = and_yes (leb 48 (char_of d)) (leb (char_of d) 70) (below (λ d. leb 48 (char_of d) && leb (char_of d) 70) 16 tt d h) in
    (leb→le 48 (char_of d) t.0, leb→le (char_of d) 70 t.1)

-- what a character says, by the four tests
said-cases : (P : ℕ → ℕ → Type 0) → ((c : ℕ) → P c 16) → ((c : ℕ) → 48 ≤ c → c ≤ 57 → P c (c - 48))
    → ((c : ℕ) → 65 ≤ c → c ≤ 70 → P c (c - 65 + 10)) → (c : ℕ) → P c (said c)
unfolding said
said-cases P none low high c =
    by_cond (P c) (within "0" "9" c) (λ t. let u = and_yes (leb 48 c) (leb c 57) t in low c (leb→le 48 c u.0) (leb→le c 57 u.1))
    (λ t. by_cond (P c) (within "A" "F" c) (λ v. let u = and_yes (leb 65 c) (leb c 70) v in high c (leb→le 65 c u.0) (leb→le c 70 u.1))
    (λ v. none c))

pub char-said : (c : ℕ) → said c < 16 → char_of (said c) ≡ c
unfolding char_of
char-said =
    said-cases (λ (c d : ℕ). d < 16 → char_of d ≡ c)
    (λ c h. absurd (omega arith))
    (λ c l u h. by_cond (λ (r : ℕ). r ≡ c) (ltb (c - 48) 10) (λ t. omega arith) (λ t. absurd (omega (arith, nltb→le (c - 48) 10 t))))
    (λ c l u h. by_cond (λ (r : ℕ). r ≡ c) (ltb (c - 65 + 10) 10) (λ t. absurd (omega (arith, ltb→lt (c - 65 + 10) 10 t))) (λ t. omega arith))

-- a character that says a digit says this one
pub digit-said : (c : ℕ) → said c < 16 → digit_of c ≡ said c
digit-said c h = rw (char-said c h) at (digit_char (said c) h)

-- a character is hex if it says a digit, and only then
pub hex-said : (c : ℕ) → T (is_hex c) → said c < 16
unfolding is_hex said
hex-said c = go (within "0" "9" c) refl
  where
    go : (low : Bool) → within "0" "9" c ≡ low → T (low || within "A" "F" c) → cond low (c - 48) (cond (within "A" "F" c) (c - 65 + 10) 16) < 16
    go true e t = let u = and_yes (leb 48 c) (leb c 57) (subst T (sym e) tt) in omega (arith, leb→le 48 c u.0, leb→le c 57 u.1)
    go false e t =
        let u = and_yes (leb 65 c) (leb c 70) t in
        by_cond (λ (d : ℕ). d < 16) (within "A" "F" c) (λ v. omega (arith, leb→le 65 c u.0, leb→le c 70 u.1)) (λ v. absurd (T_not (within "A" "F" c) v t))

pub said-hex : (c : ℕ) → said c < 16 → T (is_hex c)
unfolding is_hex said
said-hex c = go (within "0" "9" c) (within "A" "F" c)
  where
    go : (low high : Bool) → cond low (c - 48) (cond high (c - 65 + 10) 16) < 16 → T (low || high)
    go true high h = tt
    go false true h = tt
    go false false h = absurd (omega arith)

pub said-range : (c : ℕ) → said c < 16 → (48 ≤ c) × (c ≤ 70)
said-range c h = rw (char-said c h) at (char-range (said c) h)

-- ---- many characters: every one is hex, as a type

abbrev pub Hexy : List ℕ → Type 0
Hexy [] = Unit {0}
Hexy (c ∷ cs) = (said c < 16) × Hexy cs

pub hexy-yes : (cs : List ℕ) → T (all_hex cs) → Hexy cs
unfolding all_hex
hexy-yes [] t = tt
hexy-yes (c ∷ cs) t = let u = and_yes (is_hex c) (all_hex cs) t in (hex-said c u.0, hexy-yes cs u.1)

pub yes-hexy : (cs : List ℕ) → Hexy cs → T (all_hex cs)
unfolding all_hex
yes-hexy [] h = tt
yes-hexy (c ∷ cs) h = yes_and (is_hex c) (all_hex cs) (said-hex c h.0) (yes-hexy cs h.1)

pub hexy-join : (s t : List ℕ) → Hexy s → Hexy t → Hexy (s ++ t)
hexy-join [] t h k = k
hexy-join (x ∷ s) t h k = (h.0, hexy-join s t h.1 k)

pub hexy-cut : (s t : List ℕ) → Hexy (s ++ t) → Hexy s × Hexy t
hexy-cut [] t h = (tt, h)
hexy-cut (x ∷ s) t h = let r = hexy-cut s t h.1 in ((h.0, r.0), r.1)

-- ---- bytes and their characters

pub pair-hexes : (b : ℕ) → pair_of b ≡ hexes (b ∷ [])
unfolding pair_of hexes
pair-hexes b = refl

pub length-pair : (b : ℕ) → length (pair_of b) ≡ 2
unfolding pair_of
length-pair b = refl

pub hexy-hexes : (bs : List ℕ) → Bytes bs → Hexy (hexes bs)
unfolding hexes
hexy-hexes [] h = tt
hexy-hexes (b ∷ bs) h =
    let hi = said-char (b / 16) (omega (arith, h.0)) in
    let lo = said-char (b % 16) (omega arith) in
    (omega (arith, h.0), (omega arith, hexy-hexes bs h.1))

pub length-hexes : (bs : List ℕ) → length (hexes bs) ≡ 2 * length bs
unfolding hexes
length-hexes [] = refl
length-hexes (b ∷ bs) = omega (arith, length-hexes bs)

pub hexes-join : (bs cs : List ℕ) → hexes (bs ++ cs) ≡ hexes bs ++ hexes cs
unfolding hexes
hexes-join [] cs = refl
hexes-join (b ∷ bs) cs = rw (hexes-join bs cs)

pub byte_pair : (b : ℕ) → b < 256 → byte_of (char_of (b / 16)) (char_of (b % 16)) ≡ b
unfolding byte_of
byte_pair b h = omega (arith, digit_char (b / 16) (omega arith), digit_char (b % 16) (omega arith))

pub byte_small : (x y : ℕ) → byte_of x y < 256
unfolding byte_of
byte_small x y = omega (arith, digit-small x, digit-small y)

pub unhexes-hexes : (bs : List ℕ) → Bytes bs → unhexes (hexes bs) ≡ bs
unfolding hexes unhexes
unhexes-hexes [] h = refl
unhexes-hexes (b ∷ bs) h = cc (byte_pair b h.0, unhexes-hexes bs h.1)

pub bytes-unhexes : (cs : List ℕ) → Bytes (unhexes cs)
unfolding unhexes
bytes-unhexes [] = tt
bytes-unhexes (x ∷ []) = tt
bytes-unhexes (x ∷ y ∷ cs) = (byte_small x y, bytes-unhexes cs)

pub hexes-unhexes : (cs : List ℕ) → Hexy cs → length cs % 2 ≡ 0 → hexes (unhexes cs) ≡ cs
unfolding hexes unhexes byte_of
hexes-unhexes [] h e = refl
hexes-unhexes (x ∷ []) h e = absurd (omega arith)
hexes-unhexes (x ∷ y ∷ cs) h e =
    let hi : byte_of x y / 16 ≡ said x = omega (arith, digit-said x h.0, digit-said y h.1.0) in
    let lo : byte_of x y % 16 ≡ said y = omega (arith, digit-said x h.0, digit-said y h.1.0) in
    cc (char-said x h.0, char-said y h.1.0, hexes-unhexes cs h.1.1 (omega arith))

-- the two bytes of a word
pub bytes_word : (w : ℕ) → w < 65536 → Bytes (word w)
bytes_word w h = (omega arith, (omega arith, tt))

pub bytes-join : (s t : List ℕ) → Bytes s → Bytes t → Bytes (s ++ t)
bytes-join [] t h k = k
bytes-join (x ∷ s) t h k = (h.0, bytes-join s t h.1 k)

pub bytes_cut : (s t : List ℕ) → Bytes (s ++ t) → Bytes s × Bytes t
bytes_cut [] t h = (tt, h)
bytes_cut (x ∷ s) t h = let r = bytes_cut s t h.1 in ((h.0, r.0), r.1)

pub word-pairs : (w : ℕ) → w < 65536
    → byte_of (char_of (w / 256 / 16)) (char_of (w / 256 % 16)) * 256 + byte_of (char_of (w % 256 / 16)) (char_of (w % 256 % 16)) ≡ w
word-pairs w h = omega (arith, byte_pair (w / 256) (omega arith), byte_pair (w % 256) (omega arith))

-- a word is read back from its four characters
pub word-hexes : (w : ℕ) → w < 65536 → word_at (hexes (word w)) 0 ≡ w
unfolding hexes word_at byte_at
word-hexes w h = word-pairs w h

-- what stands after a first part is read there
pub word-seam : (s t : List ℕ) → word_at (s ++ t) (length s) ≡ word_at t 0
unfolding word_at byte_at
word-seam [] t = refl
word-seam (x ∷ s) t = word-seam s t
