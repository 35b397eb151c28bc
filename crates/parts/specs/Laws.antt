-- Nobody has to believe this file: it proves that a value of a single format has a byte at least, and how long a row of bytes is.
use Rattle.std.specs.Prelude.{◌≡◌, refl, List, [], ◌∷◌, ◌<◌, ℕ, zero, suc, ℤ, length, T, ltb}
use Rattle.std.proofs.Common.{arith, ap}
use Rattle.std.proofs.Math.Facts.{and_yes}
use Rattle.codec.specs.Codec.{byte}
use Rattle.codec.specs.Row.{row_ok, row_put}
use Rattle.codec.specs.Numbers.{signed}

pub some_byte : (a : ℕ) → T (byte.ok a) → 0 < length (byte.put a)
some_byte a t = omega arith

pub some_signed : (a : ℤ) → T (signed.ok a) → 0 < length (signed.put a)
some_signed a t = omega arith

-- n bytes in a row
pub length_bytes : (n : ℕ) (l : List ℕ) → T (row_ok byte n l) → length (row_put byte l) ≡ n
length_bytes zero [] t = refl
length_bytes zero (a ∷ l) t = absurd t
length_bytes (suc n) [] t = absurd t
length_bytes (suc n) (a ∷ l) t = ap suc (length_bytes n l (and_yes (ltb a 256) (row_ok byte n l) t).1)
