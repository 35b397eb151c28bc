-- All numbers are high byte first: of two and of three bytes, and signed ones of two.
use Rattle.std.specs.Prelude.{◌≡◌, refl, ℕ, ◌+◌, ◌*◌, ◌/◌, ◌%◌, ◌<◌, T, ltb, ℤ}
use Rattle.std.proofs.Common.{sym, subst, arith, ltb→lt, lt→ltb, to_z, of_z, to_z-of_z}
use Rattle.std.specs.Int.Signed.{mag}
use Rattle.std.specs.Int.{w16}
use Rattle.std.proofs.Math.Facts.{and_yes, yes_and, of_z-to_z, Fits-of_z, sfits_to_z}
use Rattle.codec.specs.Codec.{Codec, byte}
use Rattle.codec.specs.Both.{◌then◌}
use Rattle.codec.specs.Seen.{Between, seen}

-- a number below k by c, then one byte more: a number below k * 256
module _ (k : ℕ) (c : Codec ℕ) (h : (n : ℕ) → c.ok n ≡ ltb n k) where
  abbrev pub joined : ℕ × ℕ → ℕ
  joined x = x.0 * 256 + x.1

  abbrev pub apart : ℕ → ℕ × ℕ
  apart n = (n / 256, n % 256)

  pub wider_between : Between (c then byte) joined apart (λ n. ltb n (k * 256))
  wider_between = record {
    in_ok = λ n t.
        let p : n < k * 256 = ltb→lt n (k * 256) t in
        yes_and (c.ok (n / 256)) (ltb (n % 256) 256)
        (subst T (sym (h (n / 256))) (lt→ltb (n / 256) k (omega arith)))
        (lt→ltb (n % 256) 256 (omega arith));
    in_out = λ n t. omega arith;
    out_ok = λ x t.
        let ts = and_yes (c.ok x.0) (ltb x.1 256) t in
        let p : x.0 < k = ltb→lt x.0 k (subst T (h x.0) ts.0) in
        let q : x.1 < 256 = ltb→lt x.1 256 ts.1 in
        lt→ltb (x.0 * 256 + x.1) (k * 256) (omega arith);
    out_in = λ x t.
        let ts = and_yes (c.ok x.0) (ltb x.1 256) t in
        let q : x.1 < 256 = ltb→lt x.1 256 ts.1 in
        let a : (x.0 * 256 + x.1) / 256 ≡ x.0 = omega arith in
        let b : (x.0 * 256 + x.1) % 256 ≡ x.1 = omega arith in
        λ i. (a i, b i);
  }

  abbrev pub wider : Codec ℕ
  wider = seen (c then byte) joined apart (λ n. ltb n (k * 256)) wider_between

abbrev pub word : Codec ℕ
word = wider 256 byte (λ n. refl)

abbrev pub three : Codec ℕ
three = wider 65536 word (λ n. refl)

-- two bytes as a signed number
pub signed_between : Between word (to_z w16) (of_z w16) (λ z. ltb (mag z) 32768)
signed_between = record {
  in_ok = λ z t. lt→ltb (of_z w16 z) 65536 (Fits-of_z {w = w16} {z = z} (record { sfits = ltb→lt (mag z) 32768 t })).fits;
  in_out = λ z t. to_z-of_z {w = w16} {z = z} (record { sfits = ltb→lt (mag z) 32768 t });
  out_ok = λ n t. lt→ltb (mag (to_z w16 n)) 32768 (sfits_to_z {w = w16} {n = n} (record { fits = ltb→lt n 65536 t })).sfits;
  out_in = λ n t. of_z-to_z {w = w16} {n = n} (record { fits = ltb→lt n 65536 t });
}

abbrev pub signed : Codec ℤ
signed = seen word (to_z w16) (of_z w16) (λ z. ltb (mag z) 32768) signed_between
