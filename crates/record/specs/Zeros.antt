-- The zeros that stand in list places beyond a count.
use Rattle.std.specs.Prelude.{◌≡◌, Bool, false, ℕ, ℤ, pos, negsuc, T, eqb}
use Rattle.std.proofs.Common.{ap, eqb→eq}
use Rattle.codec.specs.Counted.{Zero}

abbrev pub is0 : ℤ → Bool
is0 (pos n) = eqb n 0
is0 (negsuc n) = false

pub only_0 : (z : ℤ) → T (is0 z) → z ≡ pos 0
only_0 (pos n) t = ap pos (eqb→eq n 0 t)
only_0 (negsuc n) t = absurd t

abbrev pub zero_signed : Zero ℤ
zero_signed = record { zero = pos 0; test = is0; is = tt; only = only_0 }

abbrev pub zero_byte : Zero ℕ
zero_byte = record { zero = 0; test = λ b. eqb b 0; is = tt; only = λ b t. eqb→eq b 0 t }
