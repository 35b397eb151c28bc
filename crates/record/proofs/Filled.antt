-- A list of n elements that are all one value is that value n times.
use Rattle.std.proofs.Common.{◌≡◌, sym, ◌∙◌, List, ℕ, ◌<◌, arith, replicate}
use Rattle.std.proofs.lemmas.List.{same_lists, length-replicate, get_or-replicate}
use Rattle.std.specs.Array.{AllOfLen}

pub filled : {A : Type 0} (z : A) (n : ℕ) (xs : List A) → AllOfLen (λ x. x ≡ z) xs n → xs ≡ replicate n z
filled z n xs all =
    same_lists xs (replicate n z) (all.long ∙ sym (length-replicate n z))
    (λ k d h. let l : k < n = omega (arith, all.long) in all.at k d l ∙ sym (get_or-replicate n k z d l))
