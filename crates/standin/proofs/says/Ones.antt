-- What is said is determined: no two cases are the same on paper.
use Rattle.std.proofs.Common.{◌≡◌, ℕ, Option, Some, None, refl, sym, ◌∙◌}
use Rattle.standin.specs.Says.{Speech, paper}

said-injective : (a b : Option ℕ) → paper a ≡ paper b → a ≡ b
said-injective None None e = refl
said-injective None (Some k) e = cc
said-injective (Some k) None e = cc
said-injective (Some k) (Some n) e = cc

pub said-one : (speech : Speech) (a b : Option ℕ) → paper a ≡ speech → paper b ≡ speech → a ≡ b
said-one speech a b p q = said-injective a b (p ∙ sym q)
