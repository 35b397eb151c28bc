-- The number of a judgement is that of its refusal, with a place or without; a frame has none.
use Rattle.std.proofs.Common.{◌≡◌, ℕ, refl, Option, Some, None, Ok}
use Rattle.refusal.specs.Number.{number}
use Rattle.refusal.specs.declared.Refusal.{Refusal}
use Rattle.frame.specs.declared.Frame.{Frame}
use Rattle.frame.specs.Judge.{paper, refusal_told}
use Rattle.command.specs.Heard.{number_of}

pub number-frame : (f : Frame) → number_of (paper (Ok f)) ≡ 0
unfolding number_of
number-frame f = refl

pub number-refusal : (r : Refusal) (place : Option ℕ) → number_of (refusal_told r place) ≡ number r
unfolding number_of
number-refusal r None = refl
number-refusal r (Some p) = refl

pub ruleset numbers = (number-frame, number-refusal)
