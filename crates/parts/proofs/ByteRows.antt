-- An array of N bytes is a row of N bytes, and is put as it stands.
use Rattle.std.proofs.Common.{◌≡◌, refl, sym, subst, true, T, ℕ, List, length}
use mir.Val.{Val}
use denote.Array.{Array}
use denote.Builtin.{u8}
use denote.Laws.{Is}
use Rattle.codec.specs.Codec.{byte}
use Rattle.codec.specs.Row.{row_ok, row_put}
use Rattle.codec.proofs.Rows.{row-bytes}
use Rattle.parts.specs.Laws.{length_bytes}
use Rattle.record.proofs.Typed.{bytes_ok}
use denote.Floats.{is_true}

pub bytes_fine : (n : ℕ) (l : List ℕ) (vs : List Val) → Is (Array u8 n) l vs → true ≡ row_ok byte n l
bytes_fine n l vs g = sym (is_true (row_ok byte n l) (bytes_ok n l vs g))

pub bytes_size : (n : ℕ) (l : List ℕ) → row_ok byte n l ≡ true → n ≡ length (row_put byte l)
bytes_size n l e = sym (length_bytes n l (subst T (sym e) tt))

pub bytes_put : (l : List ℕ) → row_put byte l ≡ l
bytes_put = row-bytes byte (λ a. refl)

pub ruleset bytes = (bytes_fine, bytes_size, bytes_put)
