-- What is left of INFO, by the characters that are left: nothing of fewer than two, else the byte of the first two and what the others say.
use Rattle.std.proofs.Common.{◌≡◌, refl, List, [], ◌∷◌, ℕ, ◌<◌, ◌≤◌, length, drop, arith, take, ◌-◌, ◌/◌}
use Rattle.std.proofs.lemmas.List.{take_rest}
use Rattle.hex_chars.specs.Hex.{unhexes, byte_at}

pub none_left : (s : List ℕ) → length s < 2 → unhexes s ≡ []
unfolding unhexes
none_left [] h = refl
none_left (a ∷ []) h = refl
none_left (a ∷ b ∷ s) h = absurd (omega arith)

-- as a slice of them is written
pub some_left : (s : List ℕ) → 2 ≤ length s → unhexes s ≡ byte_at s 0 ∷ unhexes (take (length s - 2) (drop 2 s))
unfolding unhexes byte_at
some_left [] h = absurd (omega arith)
some_left (a ∷ []) h = absurd (omega arith)
some_left (a ∷ b ∷ s) h = rw (take_rest (a ∷ b ∷ s) 2)

pub many_left : (s : List ℕ) → length (unhexes s) ≡ length s / 2
unfolding unhexes
many_left [] = refl
many_left (a ∷ []) = refl
many_left (a ∷ b ∷ s) = omega (arith, many_left s)

pub ruleset nexts = (none_left, some_left, many_left)
