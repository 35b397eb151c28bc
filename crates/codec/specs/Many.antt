-- Records until INFO ends, K at most: one more is refusal 17. A record has a byte at least.
use Rattle.std.specs.Prelude.{◌≡◌, refl, List, [], ◌∷◌, ◌++◌, Bool, true, false, ◌&&◌, ℕ, zero, suc, ◌<◌, length, T}
use Rattle.std.proofs.Common.{◌∙◌, ap, subst, arith, length-append}
use Rattle.std.proofs.Math.Facts.{and_yes, yes_and}
use Rattle.hex_chars.specs.Hex.{Bytes}
use Rattle.hex_chars.proofs.Laws.{bytes-join, bytes_cut}
use Rattle.codec.specs.Codec.{Codec}
use Rattle.codec.specs.Whole.{Told, told, refuse, told_value, refuse_told, Whole, onward, onward_inv, mapped, mapped_inv}

abbrev pub unless_end : {A : Type 0} → List ℕ → Told (List A) → Told (List A)
unless_end [] t = told []
unless_end (x ∷ s) t = t

pub unless_on : {A : Type 0} (s : List ℕ) (t : Told (List A)) → 0 < length s → unless_end s t ≡ t
unless_on [] t h = absurd (omega arith)
unless_on (x ∷ s) t h = refl

module _ {A : Type 0} (c : Codec A) (some : (a : A) → T (c.ok a) → 0 < length (c.put a)) where
  abbrev pub many_ok : ℕ → List A → Bool
  many_ok K [] = true
  many_ok zero (a ∷ l) = false
  many_ok (suc K) (a ∷ l) = c.ok a && many_ok K l

  abbrev pub many_put : List A → List ℕ
  many_put [] = []
  many_put (a ∷ l) = c.put a ++ many_put l

  abbrev pub many_get : ℕ → List ℕ → Told (List A)
  many_get zero s = unless_end s (refuse 17)
  many_get (suc K) s = unless_end s (onward (c.get s) (λ a r. mapped (many_get K r) (λ l. a ∷ l)))

  pub many_small : (K : ℕ) (l : List A) → T (many_ok K l) → Bytes (many_put l)
  many_small K [] h = tt
  many_small zero (a ∷ l) h = absurd h
  many_small (suc K) (a ∷ l) h =
      let hs = and_yes (c.ok a) (many_ok K l) h in
      bytes-join (c.put a) (many_put l) (c.small a hs.0) (many_small K l hs.1)

  pub many_there : (K : ℕ) (l : List A) → T (many_ok K l) → many_get K (many_put l) ≡ told l
  many_there zero [] h = refl
  many_there (suc K) [] h = refl
  many_there zero (a ∷ l) h = absurd h
  many_there (suc K) (a ∷ l) h =
      let hs = and_yes (c.ok a) (many_ok K l) h in
      unless_on (c.put a ++ many_put l) (onward (c.get (c.put a ++ many_put l)) (λ a r. mapped (many_get K r) (λ l. a ∷ l)))
      (rw length-append (omega (arith, some a hs.0)))
      ∙ rw (c.there a (many_put l) hs.0, many_there K l hs.1)

  pub many_back : (K : ℕ) (s : List ℕ) (l : List A) → Bytes s → many_get K s ≡ told l → (s ≡ many_put l) × T (many_ok K l)
  many_back zero [] l h e = subst (λ (y : List A). ([] ≡ many_put y) × T (many_ok zero y)) (told_value e) (refl, tt)
  many_back zero (x ∷ s) l h e = refuse_told e
  many_back (suc K) [] l h e = subst (λ (y : List A). ([] ≡ many_put y) × T (many_ok (suc K) y)) (told_value e) (refl, tt)
  many_back (suc K) (x ∷ s) l h e =
      let u = onward_inv (c.get (x ∷ s)) (λ a r. mapped (many_get K r) (λ l. a ∷ l)) l e in
      let v = mapped_inv (many_get K u.1) (λ l. u.0 ∷ l) l u.3 in
      let one = c.back (x ∷ s) u.0 u.1 h u.2 in
      let two = many_back K u.1 v.0 (bytes_cut (c.put u.0) u.1 (subst Bytes one.0 h)).1 v.1 in
      subst (λ (y : List A). (x ∷ s ≡ many_put y) × T (many_ok (suc K) y)) v.2
      (one.0 ∙ ap (λ (r : List ℕ). c.put u.0 ++ r) two.0, yes_and (c.ok u.0) (many_ok K v.0) one.1 two.1)

  abbrev pub many : ℕ → Whole (List A)
  many K = record { ok = many_ok K; put = many_put; get = many_get K; small = many_small K; there = many_there K; back = many_back K }
