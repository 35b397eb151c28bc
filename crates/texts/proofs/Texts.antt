-- The texts in a buffer: a number's digits from the last to the first, a text behind another; how long the lines of a block are.
use Rattle.std.proofs.Common.{◌≡◌, ℕ, zero, suc, ◌+◌, ◌-◌, ◌/◌, ◌%◌, ◌≤◌, ◌<◌, List, [], ◌∷◌, ◌++◌, length, take, drop, set, refl, sym, ap, ◌∙◌, append_assoc, append-nil, arith, length-append}
use Rattle.std.proofs.lemmas.Grind.{common_steps}
use Rattle.buffer.specs.Put.{puts, Put}
use Rattle.buffer.proofs.Puts.{puts-nil, put_then}
use Rattle.texts.specs.Text.{digit, digits, line}
use Rattle.texts.specs.Block.{Block, lines_of, lines, six_lines, refusal_lines, placed_lines, totals}
use Rattle.texts.proofs.Decimals.{digits-length, decimal-short}

-- ---- digits, the last one first

-- a byte stored behind the place of a text, and then the text
puts-set : (out : List ℕ) (at : ℕ) (s : List ℕ) (b : ℕ) → at + length s < length out → puts (set out (at + length s) b) at s ≡ puts out at (s ++ (b ∷ []))
unfolding puts
puts-set out at s b h = grind (arith, common_steps)

-- a turn stores the last of the digits that are left
pub digits-turn : (out : List ℕ) (at i rest : ℕ) → 0 < i → at + i ≤ length out
    → puts (set out (at + (i - 1)) (digit (rest % 10))) at (digits (i - 1) (rest / 10)) ≡ puts out at (digits i rest)
unfolding digits
digits-turn out at zero rest some h = absurd (omega arith)
digits-turn out at (suc j) rest some h = grind (arith, puts-set out at (digits j (rest / 10)) (digit (rest % 10)), digits-length j (rest / 10))

-- once none is left they all stand there
pub digits-put : (out t : List ℕ) (at k n i rest : ℕ) → i ≡ 0 → puts t at (digits i rest) ≡ puts out at (digits k n) → Put out at (digits k n) t (at + k)
unfolding digits
digits-put out t at k n i rest none e = record { end = grind (arith, digits-length k n); is = sym (puts-nil t at) ∙ (rw none at e) }

pub ruleset digit_steps = (digits-length, digits-turn, digits-put)

-- ---- a text, and another behind it

pub puts-puts_at : (out : List ℕ) (at a : ℕ) (s t : List ℕ) → a ≡ at + length s → at + length s ≤ length out → puts (puts out at s) a t ≡ puts out at (s ++ t)
puts-puts_at out at a s t e h =
    let p : Put out at s (puts out at s) (at + length s) = record { end = refl; is = refl } in
    let q : Put (puts out at s) (at + length s) t (puts (puts out at s) (at + length s) t) (at + length s + length t) = record { end = refl; is = refl } in
    ap (λ (k : ℕ). puts (puts out at s) k t) e ∙ (put_then (record { fits = h }) p q).is

pub ruleset puts_steps = (puts-puts_at, length-append)

-- ---- how long the lines are

pub six-short : (at : ℕ) (ver adr cid1 cid2 info : List ℕ) → at < 4294967296
    → length (six_lines at ver adr cid1 cid2 info) ≤ 42 + length ver + length adr + length cid1 + length cid2 + length info
unfolding six_lines line
six-short at ver adr cid1 cid2 info small = grind (arith, length-append, decimal-short)

pub refusal-short : (at number : ℕ) → at < 4294967296 → number < 4294967296 → length (refusal_lines at number) ≤ 33
unfolding refusal_lines line
refusal-short at number small few = grind (arith, length-append, decimal-short)

pub placed-short : (at number place : ℕ) → at < 4294967296 → number < 4294967296 → place < 4294967296 → length (placed_lines at number place) ≤ 50
unfolding placed_lines line
placed-short at number place small few near = grind (arith, length-append, decimal-short, refusal-short)

pub totals-short : (f g : ℕ) → f < 4294967296 → g < 4294967296 → length (totals f g) ≤ 38
unfolding totals line
totals-short f g small few = grind (arith, length-append, decimal-short)

pub ruleset lengths = (six-short, refusal-short, placed-short, totals-short)

-- ---- one block, and many

pub lines-one : (b : Block) → lines (b ∷ []) ≡ lines_of b
unfolding lines
lines-one b = append-nil (lines_of b)

pub lines_join : (s t : List Block) → lines (s ++ t) ≡ lines s ++ lines t
unfolding lines
lines_join [] t = refl
lines_join (b ∷ s) t = simp (lines_join s t, append_assoc)
