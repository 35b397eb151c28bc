-- A number in decimal: what stands before its last digit, and by that which digits it has, how many, and that they say the number.
use Rattle.std.proofs.Common.{◌≡◌, ℕ, zero, suc, ◌+◌, ◌-◌, ◌*◌, ◌/◌, ◌%◌, ◌^◌, ◌≤◌, ◌<◌, List, [], ◌∷◌, ◌++◌, length, refl, sym, ap, ◌∙◌, add-one, arith, length-append, lt-ltb, le-ltb}
use Rattle.std.proofs.Math.Nat.{pow-succ', one-le-pow}
use Rattle.std.proofs.lemmas.Bool.Decides.{nat_tests}
use Rattle.texts.specs.Text.{digit, decimal_in, decimal, value_from, value, digits}

-- more than enough digits change nothing
enough : (a b n : ℕ) → n < a → n < b → decimal_in a n ≡ decimal_in b n
unfolding decimal_in
enough zero b n h l = absurd (omega arith)
enough (suc a) zero n h l = absurd (omega arith)
enough (suc a) (suc b) n h l = grind (arith, nat_tests, enough a b (n / 10))

pub decimal-small : (n : ℕ) → n < 10 → decimal n ≡ digit n ∷ []
unfolding decimal decimal_in
decimal-small n h = rw (lt-ltb n 10 h)

pub decimal-step : (n : ℕ) → 10 ≤ n → decimal n ≡ decimal (n / 10) ++ (digit (n % 10) ∷ [])
unfolding decimal decimal_in
decimal-step n h = rw (le-ltb n 10 h, enough n (suc (n / 10)) (n / 10) (omega arith) (omega arith))

-- ---- which digits

pub digits-length : (k n : ℕ) → length (digits k n) ≡ k
unfolding digits
digits-length zero n = refl
digits-length (suc k) n = grind (arith, length-append, digits-length k (n / 10))

digits-of : (j n : ℕ) → 10 ^ j ≤ n → n < 10 * 10 ^ j → digits (suc j) n ≡ decimal n
unfolding digits
digits-of zero n l u = grind (arith, decimal-small)
digits-of (suc j) n l u =
    let p : 10 ^ suc j ≡ 10 * 10 ^ j = pow-succ' 10 j in
    let some : 1 ≤ 10 ^ j = one-le-pow j 10 (omega arith) in
    grind (arith, decimal-step n, digits-of j (n / 10))

-- the logarithm tells how many there are
pub decimal-digits : (j n : ℕ) → 10 ^ j ≤ n → n < 10 * 10 ^ j → digits (j + 1) n ≡ decimal n
decimal-digits j n l u = rw add-one (digits-of j n l u)

pub ruleset decimals = (decimal-small, decimal-digits)

-- ---- how many

short : (j n : ℕ) → n < 10 * 10 ^ j → length (decimal n) ≤ suc j
short zero n u = grind (arith, decimal-small)
short (suc j) n u =
    let p : 10 ^ suc j ≡ 10 * 10 ^ j = pow-succ' 10 j in
    grind (arith, length-append, decimal-small, decimal-step, short j (n / 10))

-- a number of 32 bits has ten at most
pub decimal-short : (n : ℕ) → n < 4294967296 → length (decimal n) ≤ 10
decimal-short n h = short 9 n (omega arith)

-- ---- and back

value-more : (m : ℕ) (s : List ℕ) (d : ℕ) → value_from m (s ++ (digit d ∷ [])) ≡ value_from m s * 10 + d
unfolding value_from
value-more m [] d = omega arith
value-more m (c ∷ s) d = value-more (m * 10 + (c - 48)) s d

value_in : (most n : ℕ) → n < most → value_from 0 (decimal_in most n) ≡ n
unfolding decimal_in value_from
value_in zero n h = absurd (omega arith)
value_in (suc most) n h = grind (arith, nat_tests, value-more 0 (decimal_in most (n / 10)) (n % 10), value_in most (n / 10))

-- the digits of a number say it
pub value-decimal : (n : ℕ) → value (decimal n) ≡ n
unfolding value decimal
value-decimal n = value_in (suc n) n (omega arith)

-- and no two numbers have the same digits
pub decimal-one : (m n : ℕ) → decimal m ≡ decimal n → m ≡ n
decimal-one m n e = sym (value-decimal m) ∙ ap value e ∙ value-decimal n
