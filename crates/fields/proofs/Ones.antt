-- A reader's answer is determined: two that its contract allows for one INFO are equal, and so is what they leave of it, refused or not.
use Rattle.std.proofs.Common.{◌≡◌, List, ℕ, sym, ◌∙◌}
use Rattle.std.specs.Prelude.{Result, Ok, Err}
use Rattle.refusal.specs.Number.{number}
use Rattle.refusal.specs.declared.Refusal.{Refusal}
use Rattle.refusal.proofs.Numbers.{number-injective}
use Rattle.codec.specs.Codec.{Got}
use Rattle.codec.specs.Whole.{Told}
use Rattle.fields.specs.Reads.{found, answered}

found-injective : {A : Type 0} (r r' : Result A Refusal) (s s' : List ℕ) → found r s ≡ found r' s' → (r ≡ r') × (s ≡ s')
found-injective (Ok a) (Ok b) s s' e =
    let p : a ≡ b = cc in
    let q : s ≡ s' = cc in
    (cc, q)
found-injective (Ok a) (Err q) s s' e = cc
found-injective (Err p) (Ok b) s s' e = cc
found-injective (Err p) (Err q) s s' e =
    let n : number p ≡ number q = cc in
    let m : p ≡ q = number-injective p q n in
    let l : s ≡ s' = cc in
    (cc, l)

-- of the next part of INFO, whatever its format
pub found-one : {A : Type 0} (g : Got A) (r r' : Result A Refusal) (s s' : List ℕ) → found r s ≡ g → found r' s' ≡ g → (r ≡ r') × (s ≡ s')
found-one g r r' s s' p q = found-injective r r' s s' (p ∙ sym q)

answered-injective : {A : Type 0} (r r' : Result A Refusal) → answered r ≡ answered r' → r ≡ r'
answered-injective (Ok a) (Ok b) e = let p : a ≡ b = cc in cc
answered-injective (Ok a) (Err q) e = cc
answered-injective (Err p) (Ok b) e = cc
answered-injective (Err p) (Err q) e =
    let n : number p ≡ number q = cc in
    let m : p ≡ q = number-injective p q n in
    cc

-- of a whole INFO, whatever its format
pub answered-one : {A : Type 0} (t : Told A) (r r' : Result A Refusal) → answered r ≡ t → answered r' ≡ t → r ≡ r'
answered-one t r r' p q = answered-injective r r' (p ∙ sym q)
