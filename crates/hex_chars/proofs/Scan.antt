-- What the loops over characters and bytes lean on: a turn, the end, blocks of characters, and the characters of one byte more.
use Rattle.std.proofs.Common.{◌≡◌, ℕ, zero, suc, ◌+◌, ◌-◌, ◌/◌, ◌%◌, ◌<◌, ◌≤◌, Bool, true, false, ◌&&◌, eqb, List, [], ◌∷◌, ◌++◌, length, get_or, take, drop, sym, refl, ap, ◌∙◌, add-one, arith, take-suc, length-take-le, length-drop, take_all, drop-drop, drop_of_length-le, ◌*◌, bit_or}
use Rattle.std.proofs.lemmas.List.Folds.{list_all-append, list_all_more}
use Rattle.std.proofs.Math.Bool.{and-true, and_assoc}
use Rattle.std.specs.Int.Bits.{or_zero_l}
use Rattle.std.proofs.lemmas.Nat.{le_or_l}
use Rattle.std.proofs.Math.Dec.{eqb-suc-zero}
use Rattle.std.specs.Simd.{first_chunks}
use Rattle.buffer.specs.Put.{Room, Put}
use Rattle.buffer.proofs.Lists.{chunk_at}
use Rattle.buffer.proofs.Puts.{put_then, put-none}
use Rattle.hex_chars.specs.Hex.{is_hex, char_of, all_hex, pair_of, hexes}
use Rattle.hex_chars.proofs.Laws.{pair-hexes, length-pair, length-hexes, hexes-join}

some : (n : ℕ) → 0 < n → eqb n 0 ≡ false
some zero h = absurd (omega arith)
some (suc n) h = eqb-suc-zero n

-- two numbers have no bit together if neither has one, and only then
pub no_bit : (a b : ℕ) → eqb (bit_or a b) 0 ≡ (eqb a 0 && eqb b 0)
no_bit zero b = ap (λ (n : ℕ). eqb n 0) (or_zero_l b)
no_bit (suc a) b = rw (eqb-suc-zero a) (some (bit_or (suc a) b) (omega (arith, le_or_l (suc a) b)))

pub ruleset turns = (no_bit, list_all_more)

-- ---- blocks

and_both : (a b c : Bool) → (b && c) ≡ c → ((a && b) && (a && c)) ≡ (a && c)
and_both true b c e = e
and_both false b c e = refl

-- a first part says nothing that the list does not
part : (s : List ℕ) (m : ℕ) → (all_hex (take m s) && all_hex s) ≡ all_hex s
unfolding all_hex
part s zero = refl
part [] (suc m) = refl
part (c ∷ s) (suc m) = and_both (is_hex c) (all_hex (take m s)) (all_hex s) (part s m)

-- two parts that leave nothing out
pub overlap : (s : List ℕ) (k m : ℕ) → k ≤ m → (all_hex (take m s) && all_hex (drop k s)) ≡ all_hex s
unfolding all_hex
overlap s zero m h = part s m
overlap [] (suc k) (suc m) h = refl
overlap (c ∷ s) (suc k) (suc m) h = and_assoc (is_hex c) (all_hex (take m s)) (all_hex (drop k s)) ∙ ap (λ (b : Bool). is_hex c && b) (overlap s k m (omega arith))
overlap s (suc k) zero h = absurd (omega arith)

-- the last part, as the code names it
pub rest_is : (s : List ℕ) (k : ℕ) → take (length s - k) (drop k s) ≡ drop k s
rest_is s k = take_all (length s - k) (drop k s) (omega (arith, length-drop k s))

-- the first block, and what stands from n on, which begins inside it
pub blocks_none : (s : List ℕ) (n : ℕ) (good : Bool) → n ≤ 64 → good ≡ all_hex (take 64 s) → (good && all_hex (drop n s)) ≡ all_hex s
blocks_none s n good h e = rw e (overlap s n 64 h)

-- a block more, of k from m on
pub blocks_more : (s d : List ℕ) (m k i : ℕ) (good here all : Bool) → i < k → here ≡ all_hex (get_or (first_chunks 64 k (drop m s)) i d)
    → (good && all_hex (drop (m + 64 * i) s)) ≡ all → ((good && here) && all_hex (drop (m + 64 * (i + 1)) s)) ≡ all
blocks_more s d m k i good here all h e is =
    let n = m + 64 * i in
    let this : here ≡ all_hex (take 64 (drop n s)) = e ∙ ap all_hex (chunk_at 64 k i (drop m s) d h ∙ ap (take 64) (drop-drop (64 * i) m s)) in
    let next : drop (m + 64 * (i + 1)) s ≡ drop 64 (drop n s) = (let j : m + 64 * (i + 1) ≡ n + 64 = omega arith in ap (λ (j : ℕ). drop j s) j) ∙ sym (drop-drop 64 n s) in
    rw (this, next, and_assoc good (all_hex (take 64 (drop n s))) (all_hex (drop 64 (drop n s))), overlap (drop n s) 64 64 (omega arith)) is

-- none is left
pub blocks_all : (s : List ℕ) (n : ℕ) (good all : Bool) → (good && all_hex (drop n s)) ≡ all → length s ≤ n → good ≡ all
unfolding all_hex
blocks_all s n good all e h = sym (and-true good) ∙ rw (drop_of_length-le s h) at e

pub ruleset blocks = (blocks_none, blocks_more, blocks_all)

-- ---- bytes put one after the other

pub pair_put : (out mid fin : List ℕ) (at a r b x y : ℕ) → b < 256 → x ≡ char_of (b / 16 % 16) → y ≡ char_of (b % 16 % 16)
    → Room out at (pair_of b) → Put out at (x ∷ []) mid a → Put mid a (y ∷ []) fin r → Put out at (pair_of b) fin r
unfolding pair_of
pair_put out mid fin at a r b x y h e f room p q =
    let high : b / 16 % 16 ≡ b / 16 = omega arith in
    let low : b % 16 % 16 ≡ b % 16 = omega arith in
    rw (← high, ← e, ← low, ← f) (put_then (record { fits = omega (arith, room.fits) }) p q)

-- of bytes of which the first i are put: there is room for the next, and with it i + 1 are
pub next_fits : (out mid bs : List ℕ) (at a i : ℕ) → Room out at (hexes bs) → Put out at (hexes (take i bs)) mid a → length mid ≡ length out → i < length bs
    → Room mid a (pair_of (get_or bs i 0))
next_fits out mid bs at a i h p kept l =
    record { fits = omega (arith, h.fits, p.end, length-hexes bs, length-hexes (take i bs), length-take-le i bs (omega arith), length-pair (get_or bs i 0)) }

pub next_put : (out mid fin bs : List ℕ) (at a i r : ℕ) → Room out at (hexes bs) → Put out at (hexes (take i bs)) mid a → i < length bs
    → Put mid a (pair_of (get_or bs i 0)) fin r → Put out at (hexes (take (i + 1) bs)) fin r
next_put out mid fin bs at a i r h p l q =
    let room : Room out at (hexes (take i bs)) = record { fits = omega (arith, h.fits, length-hexes bs, length-hexes (take i bs), length-take-le i bs (omega arith)) } in
    let more : hexes (take i bs) ++ pair_of (get_or bs i 0) ≡ hexes (take (i + 1) bs) =
    rw (add-one, take-suc bs i 0 l, hexes-join (take i bs) (get_or bs i 0 ∷ []), pair-hexes (get_or bs i 0)) in
    rw more at (put_then room p q)

pub put_nothing : (out : List ℕ) (at : ℕ) → Put out at (hexes []) out at
unfolding hexes
put_nothing out at = put-none out at

pub ruleset put_each = (put_nothing, next_fits, next_put)
