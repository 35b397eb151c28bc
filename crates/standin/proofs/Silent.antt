-- A character that isn't hex is met with silence: both numbers that it can call for are among those that are not heard.
use Rattle.std.proofs.Common.{◌≡◌, refl, ap, ◌∙◌, true, List, ℕ, ◌≤◌, length, get_or, le-ltb}
use Rattle.buffer.proofs.Lists.{by_cond}
use Rattle.hex_chars.specs.Hex.{is_lower}
use Rattle.frame.specs.Place.{Placed}
use Rattle.frame.proofs.Places.{placed}
use Rattle.record.specs.declared.Module.{Module}
use Rattle.table.specs.declared.Station.{Station}
use Rattle.command.specs.Heard.{words, number_of}
use Rattle.command.proofs.Ones.{told_is}
use Rattle.standin.specs.Says.{Silent, unheard, decide}
use Rattle.standin.specs.Answer.{silence, leaves, says, answer}

module _ (st : Station) (ms : List Module) (c : List ℕ) (k p : ℕ) (b : Placed c k p) where
  unheard-number : unheard (number_of (words c).told) ≡ true
  unfolding number_of
  unheard-number =
      ap (λ (t : _). unheard (number_of t)) (told_is c ∙ (placed k p c).1 b)
      ∙ ap unheard b.number
      ∙ by_cond (λ (n : ℕ). unheard n ≡ true) (is_lower (get_or c p 0)) (λ _. refl) (λ _. refl)

  pub placed-silent : decide st ms (words c) ≡ Silent
  unfolding decide
  placed-silent = rw unheard-number

  -- so the answer is silence, no byte is written, and no module goes off
  pub answer-silent : (none : ℕ) (out : List ℕ) → 4112 ≤ length out → answer true none st ms c out ≡ leaves silence none out
  unfolding answer says
  answer-silent none out h = rw (le-ltb (length out) 4112 h, placed-silent)
