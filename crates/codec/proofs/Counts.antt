-- A counted list: what is read of it, by the count that stands first, and how long it is.
use Rattle.std.proofs.Common.{◌≡◌, refl, sym, ap, ◌∙◌, true, List, [], ◌∷◌, ◌++◌, ℕ, zero, suc, ◌+◌, ◌*◌, ◌≤◌, length, take, drop, replicate, le-leb, not-suc-le-zero, le_of_suc-le-suc, arith}
use Rattle.std.proofs.lemmas.Bool.Decides.{nat_tests}
use Rattle.std.proofs.lemmas.List.{length-take-le}
use Rattle.codec.specs.Codec.{Codec, got, byte}
use Rattle.codec.specs.Row.{row}
use Rattle.codec.specs.Counted.{Zero, pad_to, counted}
use Rattle.codec.proofs.RowPuts.{row-length}

-- values put into the front of a list of zeros
pub padded-front : {A : Type 0} (z : A) (N : ℕ) (l : List A) → length l ≤ N → l ++ drop (length l) (replicate N z) ≡ pad_to z N l
padded-front z zero [] h = refl
padded-front z (suc N) [] h = ap (λ t. z ∷ t) (padded-front z N [] (omega arith))
padded-front z zero (a ∷ l) h = absurd (not-suc-le-zero h)
padded-front z (suc N) (a ∷ l) h = ap (λ t. a ∷ t) (padded-front z N l (le_of_suc-le-suc h))

module _ {A : Type 0} (c : Codec A) (o : Zero A) (K : ℕ) where
  -- a count within range, and as many values after it
  pub count-goes : (s : List ℕ) {t rest : List ℕ} {m n : ℕ} {list : List A} → byte.get s ≡ got m t → 1 ≤ m → m ≤ K → n ≡ m → length list ≡ m
      → got list rest ≡ (row c n).get t → got (m, list ++ drop m (replicate K o.zero)) rest ≡ (counted c o K).get s
  count-goes s {t} {rest} {m} {n} {list} e l h z k f =
      let g : (row c m).get t ≡ got list rest = ap (λ (j : ℕ). (row c j).get t) (sym z) ∙ sym f in
      let p : pad_to o.zero K list ≡ list ++ drop m (replicate K o.zero) =
      sym (padded-front o.zero K list (omega arith)) ∙ ap (λ (j : ℕ). list ++ drop j (replicate K o.zero)) k in
      rw (e, le-leb 1 m l, le-leb m K h, g, p)

  module _ (n : ℕ) (l : List A) (e : (counted c o K).ok (n, l) ≡ true) where
    pub count-most : n ≤ K
    count-most = grind (arith, nat_tests)

    count-long : length l ≡ K
    count-long = grind (arith, nat_tests)

    -- of values that take m bytes each
    pub count-length : (m : ℕ) → ((a : A) → length (c.put a) ≡ m) → length ((counted c o K).put (n, l)) ≡ 1 + n * m
    count-length m len = let t = length-take-le n l (omega (arith, count-most, count-long)) in rw (row-length c m len (take n l), t) (omega arith)
