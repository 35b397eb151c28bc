-- A loop that puts the values of a list into a buffer, one after the other: the next one can be written, there is room for it, and a turn puts it.
use Rattle.std.proofs.Common.{◌≡◌, refl, sym, ap, ◌∙◌, subst, true, List, [], ◌∷◌, ◌++◌, append_assoc, append-nil, ℕ, zero, suc, ◌+◌, ◌*◌, ◌<◌, ◌≤◌, length, get_or, take, length-append, zero-mul, suc-mul, add-one, arith}
use Rattle.std.proofs.lemmas.Bool.{false≢true, and_parts}
use Rattle.std.proofs.Math.Seq.{take-suc}
use Rattle.buffer.specs.Put.{Room, Put}
use Rattle.buffer.proofs.Puts.{put_then, put-none}
use Rattle.codec.specs.Codec.{Codec}
use Rattle.codec.specs.Row.{row_ok, row_put}

module _ {A : Type 0} (c : Codec A) where
  row_snoc : (l : List A) (a : A) → row_put c l ++ c.put a ≡ row_put c (l ++ (a ∷ []))
  row_snoc [] a = sym (append-nil (c.put a))
  row_snoc (x ∷ l) a = append_assoc (c.put x) (row_put c l) (c.put a) ∙ ap (λ (t : List ℕ). c.put x ++ t) (row_snoc l a)

  row-front : (i : ℕ) (l : List A) → length (row_put c (take i l)) ≤ length (row_put c l)
  row-front zero l = omega arith
  row-front (suc i) [] = omega arith
  row-front (suc i) (x ∷ l) = omega (arith, row-front i l, length-append (c.put x) (row_put c (take i l)), length-append (c.put x) (row_put c l))

  pub row-length : (m : ℕ) → ((a : A) → length (c.put a) ≡ m) → (l : List A) → length (row_put c l) ≡ length l * m
  row-length m len [] = sym (zero-mul m)
  row-length m len (a ∷ l) = rw length-append (omega (arith, len a, row-length m len l, suc-mul (length l) m))

  pub row_long : (n : ℕ) (l : List A) → row_ok c n l ≡ true → length l ≡ n
  row_long zero [] t = refl
  row_long zero (a ∷ l) t = absurd (false≢true t)
  row_long (suc n) [] t = absurd (false≢true t)
  row_long (suc n) (a ∷ l) t = ap suc (row_long n l (and_parts (c.ok a) (row_ok c n l) t).1)

  row-at : (l : List A) (i : ℕ) (d : A) → i < length l → row_ok c (length l) l ≡ true → c.ok (get_or l i d) ≡ true
  row-at [] i d h t = absurd (omega arith)
  row-at (x ∷ l) zero d h t = (and_parts (c.ok x) (row_ok c (length l) l) t).0
  row-at (x ∷ l) (suc i) d h t = row-at l i d (omega arith) (and_parts (c.ok x) (row_ok c (length l) l) t).1

  -- a is the value at a place of the list
  module _ (l : List A) {i : ℕ} {a : A} (e : a ≡ get_or l i a) (h : i < length l) where
    pub row-item : row_ok c (length l) l ≡ true → c.ok a ≡ true
    row-item t = ap c.ok e ∙ row-at l i a h t

    one_more : row_put c (take i l) ++ c.put a ≡ row_put c (take (i + 1) l)
    one_more =
        ap (λ (x : A). row_put c (take i l) ++ c.put x) e
        ∙ row_snoc (take i l) (get_or l i a)
        ∙ ap (row_put c) (sym (take-suc l i a h) ∙ ap (λ (j : ℕ). take j l) (sym (add-one i)))

    module _ {out mid : List ℕ} {at next : ℕ} (r : Room out at (row_put c l)) (p : Put out at (row_put c (take i l)) mid next) where
      pub room-turn : length mid ≡ length out → Room mid next (c.put a)
      room-turn kept =
          let n = ap length (sym one_more) ∙ length-append (row_put c (take i l)) (c.put a) in
          record { fits = omega (arith, r.fits, p.end, n, row-front (i + 1) l) }

      pub put-turn : {fin : List ℕ} {last : ℕ} → Put mid next (c.put a) fin last → Put out at (row_put c (take (i + 1) l)) fin last
      put-turn {fin} {last} q =
          subst (λ (t : List ℕ). Put out at t fin last) one_more
          (put_then (record { fits = omega (arith, r.fits, row-front i l) }) p q)

-- what the loop's other goals want
pub ruleset row_puts = (put-none, row-item, room-turn)
