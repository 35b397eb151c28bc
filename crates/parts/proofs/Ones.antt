-- A reader's or a writer's answer is determined: two that its contract allows are equal, and so is what they leave.
use Rattle.std.proofs.Common.{◌≡◌, List, ℕ, refl, sym, ◌∙◌}
use Rattle.std.specs.Prelude.{Result, Ok, Err, OnErr, replicate}
use Rattle.refusal.specs.Number.{number}
use Rattle.refusal.specs.declared.Refusal.{Refusal}
use Rattle.refusal.proofs.Numbers.{number-injective}
use Rattle.buffer.specs.Writing.{Writes}
use Rattle.buffer.proofs.Writers.{writes_one}
use Rattle.codec.specs.Codec.{Got}
use Rattle.codec.specs.Whole.{Whole, Told, told, told_value, refuse_told}
use Rattle.parts.specs.Groups.{handed}
use Rattle.parts.specs.Lists.{filled}
use Rattle.parts.specs.Records.{record_writing}

filled-injective : {A : Type 0} (r r' : Result (Unit {0}) Refusal) (l l' : A) (s s' : List ℕ) → filled r l s ≡ filled r' l' s' → (r ≡ r') × (s ≡ s') × (r ≡ Ok tt → l ≡ l')
filled-injective (Ok u) (Ok v) l l' s s' e =
    let p : l ≡ l' = cc in
    let q : s ≡ s' = cc in
    (refl, q, λ h. p)
filled-injective (Ok u) (Err q) l l' s s' e = cc
filled-injective (Err p) (Ok v) l l' s s' e = cc
filled-injective (Err p) (Err q) l l' s s' e =
    let n : number p ≡ number q = cc in
    let m : p ≡ q = number-injective p q n in
    let t : s ≡ s' = cc in
    (cc, t, λ h. cc)

-- a filled list: the answer, what was read, and what is left of INFO; what a refused reading leaves in the list is not said
pub fills_one : {A : Type 0} (g : Got (List A)) (r r' : Result (Unit {0}) Refusal) (l l' : List A) (s s' : List ℕ) → filled r l s ≡ g → filled r' l' s' ≡ g
    → (r ≡ r') × (s ≡ s') × (r ≡ Ok tt → l ≡ l')
fills_one g r r' l l' s s' p q = filled-injective r r' l l' s s' (p ∙ sym q)

-- a group that was handed out
pub handed-told : {A : Type 0} (r : Result (ℕ × ℕ) Refusal) (held : List A) (flag n : ℕ) (l : List A) → handed r held ≡ told (flag, (n, l)) → (r ≡ Ok (flag, n)) × (held ≡ l)
handed-told (Ok x) held flag n l e =
    let y : ◌≡◌ {A = ℕ × (ℕ × List _)} (x.0, (x.1, held)) (flag, (n, l)) = told_value e in
    (λ i. Ok ((y i).0, (y i).1.0), λ i. (y i).1.1)
handed-told (Err q) held flag n l e = refuse_told e

handed-injective : {A : Type 0} (n : ℕ) (none : A) (r r' : Result (ℕ × ℕ) Refusal) (l l' : List A) → OnErr r (l ≡ replicate n none) → OnErr r' (l' ≡ replicate n none) → handed r l ≡ handed r' l' → (r ≡ r') × (l ≡ l')
handed-injective n none r (Ok y) l l' f g e = handed-told r l y.0 y.1 l' e
handed-injective n none (Ok x) (Err q) l l' f g e = cc
handed-injective n none (Err p) (Err q) l l' f g e =
    let k : number p ≡ number q = cc in
    let m : p ≡ q = number-injective p q k in
    ((λ i. Err (m i)), f ∙ sym g)

-- a reader of a group: the answer, and what every one of its places holds, after a refusal too
pub group-one : {A : Type 0} (n : ℕ) (none : A) (t : Told (ℕ × (ℕ × List A))) (r r' : Result (ℕ × ℕ) Refusal) (l l' : List A)
    → handed r l ≡ t → OnErr r (l ≡ replicate n none) → handed r' l' ≡ t → OnErr r' (l' ≡ replicate n none) → (r ≡ r') × (l ≡ l')
group-one n none t r r' l l' p f q g = handed-injective n none r r' l l' f g (p ∙ sym q)

-- every record writer, over its INFO
pub record-one : {A : Type 0} (adr : ℕ) (info : Whole A) (value : A) (out : List ℕ) (a b : Result ℕ Refusal) (x y : List ℕ)
    → Writes (record_writing adr info value out) a x → Writes (record_writing adr info value out) b y → (a ≡ b) × (x ≡ y)
record-one adr info value out = writes_one (record_writing adr info value out)
