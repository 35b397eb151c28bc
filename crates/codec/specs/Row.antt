-- n values in a row.
use Rattle.std.specs.Prelude.{◌≡◌, refl, List, [], ◌∷◌, ◌++◌, Bool, true, false, ◌&&◌, ℕ, zero, suc, T}
use Rattle.std.proofs.Common.{sym, ◌∙◌, ap, subst, append_assoc}
use Rattle.std.proofs.Math.Facts.{and_yes, yes_and}
use Rattle.hex_chars.specs.Hex.{Bytes}
use Rattle.hex_chars.proofs.Laws.{bytes-join, bytes_cut}
use Rattle.codec.specs.Codec.{Codec, Got, got, and_then, got_value, got_rest, then_inv}

module _ {A : Type 0} (c : Codec A) where
  abbrev pub row_ok : ℕ → List A → Bool
  row_ok zero [] = true
  row_ok zero (a ∷ l) = false
  row_ok (suc n) [] = false
  row_ok (suc n) (a ∷ l) = c.ok a && row_ok n l

  abbrev pub row_put : List A → List ℕ
  row_put [] = []
  row_put (a ∷ l) = c.put a ++ row_put l

  abbrev pub row_get : ℕ → List ℕ → Got (List A)
  row_get zero s = got [] s
  row_get (suc n) s = and_then (c.get s) (λ a r. and_then (row_get n r) (λ l r'. got (a ∷ l) r'))

  pub row_small : (n : ℕ) (l : List A) → T (row_ok n l) → Bytes (row_put l)
  row_small zero [] h = tt
  row_small zero (a ∷ l) h = absurd h
  row_small (suc n) [] h = absurd h
  row_small (suc n) (a ∷ l) h =
      let hs = and_yes (c.ok a) (row_ok n l) h in
      bytes-join (c.put a) (row_put l) (c.small a hs.0) (row_small n l hs.1)

  pub row_there : (n : ℕ) (l : List A) (rest : List ℕ) → T (row_ok n l) → row_get n (row_put l ++ rest) ≡ got l rest
  row_there zero [] rest h = refl
  row_there zero (a ∷ l) rest h = absurd h
  row_there (suc n) [] rest h = absurd h
  row_there (suc n) (a ∷ l) rest h =
      let hs = and_yes (c.ok a) (row_ok n l) h in
      rw (append_assoc, c.there a (row_put l ++ rest) hs.0, row_there n l rest hs.1)

  pub row_back : (n : ℕ) (s : List ℕ) (l : List A) (rest : List ℕ) → Bytes s → row_get n s ≡ got l rest → (s ≡ row_put l ++ rest) × T (row_ok n l)
  row_back zero s l rest h e =
      subst (λ (y : List A). (s ≡ row_put y ++ rest) × T (row_ok zero y)) (got_value e) (got_rest e, tt)
  row_back (suc n) s l rest h e =
      let u = then_inv (c.get s) (λ a r. and_then (row_get n r) (λ l r'. got (a ∷ l) r')) l rest e in
      let a = u.0 in
      let v = then_inv (row_get n u.1) (λ l r'. got (a ∷ l) r') l rest u.3 in
      let one = c.back s a u.1 h u.2 in
      let two = row_back n u.1 v.0 v.1 (bytes_cut (c.put a) u.1 (subst Bytes one.0 h)).1 v.2 in
      let join : s ≡ (c.put a ++ row_put v.0) ++ rest =
      one.0 ∙ ap (λ (x : List ℕ). c.put a ++ x) (two.0 ∙ ap (λ (x : List ℕ). row_put v.0 ++ x) (got_rest v.3)) ∙ sym (append_assoc (c.put a) (row_put v.0) rest)
      in
      subst (λ (y : List A). (s ≡ row_put y ++ rest) × T (row_ok (suc n) y)) (got_value v.3)
      (join, yes_and (c.ok a) (row_ok n v.0) one.1 two.1)

  abbrev pub row : ℕ → Codec (List A)
  row n = record {
    ok = row_ok n;
    put = row_put;
    get = row_get n;
    small = row_small n;
    there = row_there n;
    back = row_back n;
  }
