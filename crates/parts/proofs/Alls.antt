-- What `all` asks of each value is the format's own test of the list.
use Rattle.std.proofs.Common.{◌≡◌, refl, ap, Bool, ◌&&◌, List, [], ◌∷◌, length}
use Rattle.std.specs.List.{list_all}
use Rattle.codec.specs.Codec.{Codec}
use Rattle.codec.specs.Row.{row_ok}
use Rattle.codec.specs.Counted.{every}

pub all-every : {A : Type 0} (p : A → Bool) (l : List A) → list_all p l ≡ every p l
all-every p [] = refl
all-every p (a ∷ l) = ap (λ b. p a && b) (all-every p l)

pub all-row : {A : Type 0} (c : Codec A) (l : List A) → list_all c.ok l ≡ row_ok c (length l) l
all-row c [] = refl
all-row c (a ∷ l) = ap (λ b. c.ok a && b) (all-row c l)
