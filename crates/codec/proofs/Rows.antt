-- A loop that reads n values into a list from its front: how far it is, and what a turn is.
use Rattle.std.proofs.Common.{◌≡◌, refl, sym, ◌∙◌, ap, List, [], ◌∷◌, ◌++◌, append_assoc, ℕ, suc, ◌+◌, ◌-◌, ◌<◌, ◌≤◌, length, take, set, length-set, add-one, arith}
use Rattle.std.proofs.Math.Seq.{take-suc-set}
use Rattle.codec.specs.Codec.{Codec, Got, got, no, and_then}
use Rattle.codec.specs.Row.{row, row_put}

-- what was read before, in front of what is read
abbrev pub onto : {A : Type 0} → List A → Got (List A) → Got (List A)
onto l (got m s) = got (l ++ m) s
onto l (no k s) = no k s

onto-more : {A : Type 0} (l : List A) (a : A) (g : Got (List A)) → onto l (and_then g (λ m r. got (a ∷ m) r)) ≡ onto (l ++ (a ∷ [])) g
onto-more l a (got m s) = ap (λ (x : List _). got x s) (sym (append_assoc l (a ∷ []) m))
onto-more l a (no k s) = refl

module _ {A : Type 0} (c : Codec A) (s : List ℕ) (n : ℕ) where
  -- i values of the list's n have been read, and rest is what is left
  pub record Filled (list : List A) (i : ℕ) (rest : List ℕ) : Type 0 where
    pub long : length list ≡ n
    pub far : i ≤ n
    pub left : (row c n).get s ≡ onto (take i list) ((row c (n - i)).get rest)

  -- a turn reads one more
  pub filled_more : {list : List A} {i : ℕ} {rest next : List ℕ} {v : A} → got v next ≡ c.get rest → Filled list i rest → i < n → Filled (set list i v) (i + 1) next
  filled_more {list} {i} {rest} {next} {v} e f h =
      let more : n - i ≡ suc (n - (i + 1)) = omega arith in
      let t : take i list ++ (v ∷ []) ≡ take (i + 1) (set list i v) =
      sym (ap (λ (k : ℕ). take k (set list i v)) (add-one i) ∙ take-suc-set list i v (omega (arith, f.long))) in
      let one : (row c (suc (n - (i + 1)))).get rest ≡ and_then ((row c (n - (i + 1))).get next) (λ m r. got (v ∷ m) r) = rw (sym e) in
      record {
        long = length-set list i v ∙ f.long;
        far = omega arith;
        left =
            f.left
            ∙ ap (λ (k : ℕ). onto (take i list) ((row c k).get rest)) more
            ∙ ap (onto (take i list)) one
            ∙ onto-more (take i list) v ((row c (n - (i + 1))).get next)
            ∙ ap (λ (l : List A). onto l ((row c (n - (i + 1))).get next)) t;
      }

-- values of one byte each are their own bytes
pub row-bytes : (c : Codec ℕ) → ((a : ℕ) → c.put a ≡ a ∷ []) → (l : List ℕ) → row_put c l ≡ l
row-bytes c h [] = refl
row-bytes c h (a ∷ l) = ap (λ (p : List ℕ). p ++ row_put c l) (h a) ∙ ap (λ (t : List ℕ). a ∷ t) (row-bytes c h l)
