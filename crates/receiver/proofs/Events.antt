-- What an event says: nothing where there is none, and no two events say the same.
use Rattle.std.proofs.Common.{◌≡◌, ℕ, not, refl, sym, ap, Option, Some, None, Ok, Err, is_some}
use Rattle.refusal.specs.declared.Refusal.{Refusal}
use Rattle.frame.specs.Judge.{nothing, refusal_told, paper as paper_judged}
use Rattle.frame.specs.Answered.{Judged}
use Rattle.frame.proofs.Answered.{paper-injective as judged-injective}
use Rattle.receiver.specs.Step.{paper}
use Rattle.receiver.specs.Run.{is_nothing}

no_refusal : (r : Refusal) (p : Option ℕ) → nothing ≡ refusal_told r p → ⊥
no_refusal r None e = cc
no_refusal r (Some x) e = cc

no_judged : (j : Judged) → nothing ≡ paper_judged j → ⊥
no_judged (Ok f) e = cc
no_judged (Err f) e = no_refusal f.refusal f.place e

pub paper-injective : (a b : Option Judged) → paper a ≡ paper b → a ≡ b
paper-injective None None e = refl
paper-injective None (Some k) e = absurd (no_judged k e)
paper-injective (Some j) None e = absurd (no_judged j (sym e))
paper-injective (Some j) (Some k) e = ap Some (judged-injective j k e)

-- a refusal is told with a place or without
is-told : (r : Refusal) (p : Option ℕ) → is_nothing (refusal_told r p) ≡ not (is_some (Some p))
is-told r None = refl
is-told r (Some x) = refl

pub nothing-told : (e : Option Judged) → is_nothing (paper e) ≡ not (is_some e)
nothing-told None = refl
nothing-told (Some (Ok f)) = refl
nothing-told (Some (Err f)) = is-told f.refusal f.place
