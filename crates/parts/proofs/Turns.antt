-- A loop that reads records into a list from its front until INFO ends: what a turn is, and with it the end. For any codec.
use Rattle.std.proofs.Common.{◌≡◌, refl, sym, ◌∙◌, ap, List, [], ◌∷◌, ◌++◌, append_assoc, ℕ, suc, ◌+◌, ◌-◌, ◌<◌, ◌≤◌, arith, add-one, length, take, T}
use Rattle.std.proofs.Math.ListN.{set, length-set}
use Rattle.std.proofs.Math.Seq.{take-suc-set}
use Rattle.codec.specs.Codec.{Codec, got}
use Rattle.codec.specs.Whole.{Told, told, refuse, mapped, onward}
use Rattle.codec.specs.Many.{many, many_get, unless_on}

-- what was read before, in front of what is told
abbrev pub onto : {A : Type 0} → List A → Told (List A) → Told (List A)
onto l (told m) = told (l ++ m)
onto l (refuse k) = refuse k

onto_more : {A : Type 0} (l : List A) (a : A) (t : Told (List A)) → onto l (mapped t (λ m. a ∷ m)) ≡ onto (l ++ (a ∷ [])) t
onto_more l a (told m) = ap told (sym (append_assoc l (a ∷ []) m))
onto_more l a (refuse k) = refl

module _ {A : Type 0} (c : Codec A) (some : (a : A) → T (c.ok a) → 0 < length (c.put a)) (s : List ℕ) (n : ℕ) where
  -- i records have been read into the list's n places, and rest is what is left
  pub record Listed (list : List A) (i : ℕ) (rest : List ℕ) : Type 0 where
    pub long : length list ≡ n
    pub far : i ≤ n
    pub left : (many c some n).get s ≡ onto (take i list) ((many c some (n - i)).get rest)

  pub listed_more : {list : List A} {i : ℕ} {rest next : List ℕ} {v : A} → Listed list i rest → i < n → 0 < length rest
      → got v next ≡ c.get rest → Listed (set list i v) (i + 1) next
  listed_more {list} {i} {rest} {next} {v} f h more e =
      let left = n - (i + 1) in
      let one : n - i ≡ suc left = omega arith in
      let front : take i list ++ (v ∷ []) ≡ take (i + 1) (set list i v) =
      sym (ap (λ (k : ℕ). take k (set list i v)) (add-one i) ∙ take-suc-set list i v (omega (arith, f.long))) in
      let turn : (many c some (suc left)).get rest ≡ mapped ((many c some left).get next) (λ m. v ∷ m) =
      unless_on rest (onward (c.get rest) (λ a r. mapped (many_get c some left r) (λ m. a ∷ m))) more ∙ rw (← e) in
      record {
        long = length-set list i v ∙ f.long;
        far = omega arith;
        left =
            f.left
            ∙ ap (λ (k : ℕ). onto (take i list) ((many c some k).get rest)) one
            ∙ ap (onto (take i list)) turn
            ∙ onto_more (take i list) v ((many c some left).get next)
            ∙ ap (λ (l : List A). onto l ((many c some left).get next)) front;
      }
