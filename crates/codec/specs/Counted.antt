-- A count from 1 to K (15), then that many values; as a value, the count beside a list of K places, those beyond the count zero.
use Rattle.std.specs.Prelude.{◌≡◌, refl, List, [], ◌∷◌, Bool, true, ◌&&◌, ℕ, zero, suc, ◌≤◌, length, take, drop, T, leb, ltb, eqb}
use Rattle.std.proofs.Common.{sym, ap, subst, arith, le_of_suc-le-suc, not-suc-le-zero, leb→le, eqb→eq}
use Rattle.std.proofs.Math.Facts.{and_yes, yes_and, yes_eqb}
use Rattle.codec.specs.Codec.{Codec, byte}
use Rattle.codec.specs.Both.{both}
use Rattle.codec.specs.Tested.{tested}
use Rattle.codec.specs.Seen.{Between, seen}
use Rattle.codec.specs.Row.{row, row_ok}

-- a value's zero, and the test that finds it
pub record Zero (A : Type 0) : Type 0 where
  pub zero : A
  pub test : A → Bool
  pub is : T (test zero)
  pub only : (a : A) → T (test a) → a ≡ zero

-- l's values, then z up to N places in all
abbrev pub pad_to : {A : Type 0} → A → ℕ → List A → List A
pad_to z zero l = []
pad_to z (suc N) [] = z ∷ pad_to z N []
pad_to z (suc N) (a ∷ l) = a ∷ pad_to z N l

-- each element passes
abbrev pub every : {A : Type 0} → (A → Bool) → List A → Bool
every p [] = true
every p (a ∷ l) = p a && every p l

pub length_pad_to : {A : Type 0} (z : A) (N : ℕ) (l : List A) → length (pad_to z N l) ≡ N
length_pad_to z zero l = refl
length_pad_to z (suc N) [] = ap suc (length_pad_to z N [])
length_pad_to z (suc N) (a ∷ l) = ap suc (length_pad_to z N l)

module _ {A : Type 0} (c : Codec A) (o : Zero A) where
  every_z : (N : ℕ) → T (every o.test (pad_to o.zero N []))
  every_z zero = tt
  every_z (suc N) = yes_and (o.test o.zero) (every o.test (pad_to o.zero N [])) o.is (every_z N)

  -- of l with n values: they come back, and what follows is zero
  row_take : (n N : ℕ) (l : List A) → n ≤ N → T (row_ok c n l) → (take n (pad_to o.zero N l) ≡ l) × T (every o.test (drop n (pad_to o.zero N l)))
  row_take zero zero [] h t = (refl, tt)
  row_take zero (suc N) [] h t = (refl, every_z (suc N))
  row_take zero N (a ∷ l) h t = absurd t
  row_take (suc n) N [] h t = absurd t
  row_take (suc n) zero (a ∷ l) h t = absurd (not-suc-le-zero h)
  row_take (suc n) (suc N) (a ∷ l) h t =
      let r = row_take n N l (le_of_suc-le-suc h) (and_yes (c.ok a) (row_ok c n l) t).1 in
      (ap (λ x. a ∷ x) r.0, r.1)

  all_z : (N : ℕ) (l : List A) → length l ≡ N → T (every o.test l) → pad_to o.zero N [] ≡ l
  all_z zero [] e t = refl
  all_z zero (a ∷ l) e t = absurd (omega arith)
  all_z (suc N) [] e t = absurd (omega arith)
  all_z (suc N) (a ∷ l) e t =
      let ts = and_yes (o.test a) (every o.test l) t in
      λ i. sym (o.only a ts.0) i ∷ all_z N l (omega arith) ts.1 i

  pad_to_take : (n N : ℕ) (l : List A) → length l ≡ N → T (every o.test (drop n l)) → pad_to o.zero N (take n l) ≡ l
  pad_to_take zero N l e t = all_z N l e t
  pad_to_take (suc n) zero [] e t = refl
  pad_to_take (suc n) zero (a ∷ l) e t = absurd (omega arith)
  pad_to_take (suc n) (suc N) [] e t = absurd (omega arith)
  pad_to_take (suc n) (suc N) (a ∷ l) e t = ap (λ x. a ∷ x) (pad_to_take n N l (omega arith) t)

  module _ (K : ℕ) where
    abbrev pub in_range : ℕ → Bool
    in_range n = leb 1 n && leb n K

    -- the count and the values, as they stand in the bytes
    abbrev pub listed : Codec (ℕ × List A)
    listed = both (tested in_range 15 byte) (λ n. row c n)

    abbrev pub padded : ℕ × List A → ℕ × List A
    padded x = (x.0, pad_to o.zero K x.1)

    abbrev pub cut : ℕ × List A → ℕ × List A
    cut x = (x.0, take x.0 x.1)

    abbrev pub counted_ok : ℕ × List A → Bool
    counted_ok x = listed.ok (cut x) && (eqb (length x.1) K && every o.test (drop x.0 x.1))

    pub counted_between : Between listed padded cut counted_ok
    counted_between = record {
      in_ok = λ x t. (and_yes (listed.ok (cut x)) (eqb (length x.1) K && every o.test (drop x.0 x.1)) t).0;
      in_out = λ x t.
          let u = and_yes (eqb (length x.1) K) (every o.test (drop x.0 x.1)) (and_yes (listed.ok (cut x)) (eqb (length x.1) K && every o.test (drop x.0 x.1)) t).1 in
          λ i. (x.0, pad_to_take x.0 K x.1 (eqb→eq (length x.1) K u.0) u.1 i);
      out_ok = λ x t.
          let u = and_yes (in_range x.0 && ltb x.0 256) (row_ok c x.0 x.1) t in
          let v = and_yes (in_range x.0) (ltb x.0 256) u.0 in
          let w = and_yes (leb 1 x.0) (leb x.0 K) v.0 in
          let r = row_take x.0 K x.1 (leb→le x.0 K w.1) u.1 in
          yes_and (listed.ok (cut (padded x))) (eqb (length (pad_to o.zero K x.1)) K && every o.test (drop x.0 (pad_to o.zero K x.1)))
          (subst (λ l. T (listed.ok (x.0, l))) (sym r.0) t)
          (yes_and (eqb (length (pad_to o.zero K x.1)) K) (every o.test (drop x.0 (pad_to o.zero K x.1))) (yes_eqb (length_pad_to o.zero K x.1)) r.1);
      out_in = λ x t.
          let u = and_yes (in_range x.0 && ltb x.0 256) (row_ok c x.0 x.1) t in
          let v = and_yes (in_range x.0) (ltb x.0 256) u.0 in
          let w = and_yes (leb 1 x.0) (leb x.0 K) v.0 in
          λ i. (x.0, (row_take x.0 K x.1 (leb→le x.0 K w.1) u.1).0 i);
    }

    abbrev pub counted : Codec (ℕ × List A)
    counted = seen listed padded cut counted_ok counted_between
