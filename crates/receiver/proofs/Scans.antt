-- The laws of a scan: bytes of which none meets the test stand before the first that does, and what stands before it meets none.
use Rattle.std.proofs.Common.{◌≡◌, ℕ, zero, suc, ◌+◌, ◌-◌, ◌*◌, ◌/◌, ◌<◌, ◌≤◌, Bool, false, cond, ltb, List, [], ◌∷◌, length, get_or, take, drop, Option, Some, None, unwrap_or, refl, sym, ap, ◌∙◌, arith, add-one, zero-add, length-drop, drop-drop}
use Rattle.std.specs.Simd.{first_chunks}
use Rattle.std.specs.List.{list_any, position_or_len}
use Rattle.std.proofs.lemmas.Bool.{or_from}
use Rattle.std.proofs.lemmas.List.Folds.{list_any_more}
use Rattle.std.proofs.Math.Nat.{mul_comm, suc-mul, mul-le-mul_right, div-mul-le_self}
use Rattle.buffer.proofs.Lists.{chunk_at}
use Rattle.receiver.specs.Pass.{Behind}

module _ (test : ℕ → Bool) where
  pub position-le : (s : List ℕ) → position_or_len test s ≤ length s
  position-le [] = omega arith
  position-le (x ∷ s) = let h = position-le s in grind arith

  -- k bytes at the start of which none meets the test
  pub position-past : (s : List ℕ) (k : ℕ) → k ≤ length s → list_any test (take k s) ≡ false → position_or_len test s ≡ k + position_or_len test (drop k s)
  position-past s zero h none = sym (zero-add (position_or_len test s))
  position-past [] (suc k) h none = absurd (omega arith)
  position-past (x ∷ s) (suc k) h none = let p = position-past s k (omega arith) in grind arith

  -- k bytes at the start that stand before the first that meets it
  pub none-before : (s : List ℕ) (k : ℕ) → k ≤ position_or_len test s → list_any test (take k s) ≡ false
  none-before s zero h = refl
  none-before [] (suc k) h = refl
  none-before (x ∷ s) (suc k) h = let p = none-before s k in grind arith

  pub position-drop : (s : List ℕ) (k : ℕ) → k ≤ position_or_len test s → position_or_len test s ≡ k + position_or_len test (drop k s)
  position-drop s k h = position-past s k (omega (arith, position-le s)) (none-before s k h)

  -- one more
  pub position-more : (s : List ℕ) (k : ℕ) → k ≤ position_or_len test s → k < length s → test (get_or s k 0) ≡ false → k + 1 ≤ position_or_len test s
  position-more s k h here fails =
      let none : list_any test (take (k + 1) s) ≡ false = list_any_more test s k 0 here ∙ or_from (list_any test (take k s)) (test (get_or s k 0)) (none-before s k h) fails in
      omega (arith, position-past s (k + 1) (omega arith) none)

  -- a whole block more
  pub behind-block : (s : List ℕ) (blocks : List (List ℕ)) (block : List ℕ) (width i : ℕ) (hit : Bool) → blocks ≡ first_chunks width (length s / width) s → length blocks ≡ length s / width → i < length blocks
      → block ≡ get_or blocks i block → hit ≡ list_any test block → hit ≡ false → Behind test s (drop (i * width) s) → Behind test s (drop ((i + 1) * width) s)
  behind-block s blocks this width i hit front many h at is clear b =
      let k : ℕ = length s / width in
      let rest : List ℕ = drop (i * width) s in
      let block : this ≡ take width rest =
      at ∙ ap (λ (l : List (List ℕ)). get_or l i this) front ∙ chunk_at width k i s this (omega arith) ∙ ap (λ (n : ℕ). take width (drop n s)) (mul_comm width i) in
      let more : (i + 1) * width ≡ i * width + width = rw add-one (suc-mul i width) in
      let within : (i + 1) * width ≤ k * width = mul-le-mul_right width (omega arith) in
      let all : k * width ≤ length s = div-mul-le_self (length s) width in
      let left : length rest ≡ length s - i * width = length-drop (i * width) s in
      let past = position-past rest width (omega arith) (ap (list_any test) (sym block) ∙ sym is ∙ clear) in
      let next : drop ((i + 1) * width) s ≡ drop width rest = ap (λ (n : ℕ). drop n s) more ∙ sym (drop-drop width (i * width) s) in
      let last : length (drop ((i + 1) * width) s) ≡ length s - (i + 1) * width = length-drop ((i + 1) * width) s in
      (omega arith, omega (arith, past, ap (position_or_len test) next))

  pub first-position : (s : List ℕ) (r : Option ℕ) → r ≡ cond (ltb (position_or_len test s) (length s)) (Some (position_or_len test s)) None → unwrap_or r (length s) ≡ position_or_len test s
  first-position s r e = let h = position-le s in grind arith

pub ruleset scans = (position-le, first-position)
