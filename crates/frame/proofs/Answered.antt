-- No two of the judge's answers say the same in the paper's numbers.
use Rattle.std.proofs.Common.{◌≡◌, ℕ, refl, ap, Option, Some, None, Result, Ok, Err}
use Rattle.refusal.specs.Number.{number}
use Rattle.refusal.specs.declared.Refusal.{Refusal}
use Rattle.refusal.proofs.Numbers.{number-injective}
use Rattle.frame.specs.declared.Header.{Header}
use Rattle.frame.specs.declared.Frame.{Frame}
use Rattle.frame.specs.declared.Fault.{Fault}
use Rattle.frame.specs.Judge.{refusal_told, paper, frame}
use Rattle.frame.specs.Answered.{Judged}

told-injective : (q r : Refusal) (o p : Option ℕ) → refusal_told q o ≡ refusal_told r p → (q ≡ r) × (o ≡ p)
told-injective q r None None e = let n : number q ≡ number r = cc in (number-injective q r n, refl)
told-injective q r None (Some y) e = cc
told-injective q r (Some x) None e = cc
told-injective q r (Some x) (Some y) e =
    let n : number q ≡ number r = cc in
    let m : x ≡ y = cc in
    (number-injective q r n, ap Some m)

no_frame : (h : Header) (n : ℕ) (r : Refusal) (p : Option ℕ) → frame h n ≡ refusal_told r p → ⊥
no_frame h n r None e = cc
no_frame h n r (Some x) e = cc

no-refusal : (h : Header) (n : ℕ) (r : Refusal) (p : Option ℕ) → refusal_told r p ≡ frame h n → ⊥
no-refusal h n r None e = cc
no-refusal h n r (Some x) e = cc

pub paper-injective : (a b : Judged) → paper a ≡ paper b → a ≡ b
paper-injective (Ok f) (Ok g) e =
    let h : f.header ≡ g.header = cc in
    let n : f.lenid ≡ g.lenid = cc in
    λ i. Ok (record { header = h i; lenid = n i })
paper-injective (Ok f) (Err g) e = absurd (no_frame f.header f.lenid g.refusal g.place e)
paper-injective (Err f) (Ok g) e = absurd (no-refusal g.header g.lenid f.refusal f.place e)
paper-injective (Err f) (Err g) e =
    let s = told-injective f.refusal g.refusal f.place g.place e in
    λ i. Err (record { refusal = s.0 i; place = s.1 i })
