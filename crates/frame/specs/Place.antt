-- Which character was bad: what a refusal with a place says of the stretch.
use Rattle.std.specs.Prelude.{◌≡◌, ℕ, ◌≤◌, List, length, slice_index}
use Rattle.hex_chars.specs.Hex.{FirstBad}
use Rattle.frame.specs.Judge.{bad_number}

-- it is neither too short nor too long, the place is that of the first character that isn't hex, and the number is what this one calls for
pub record Placed (c : List ℕ) (k p : ℕ) : Type 0 where
  pub long : 16 ≤ length c
  pub few : length c ≤ 4110
  pub first : FirstBad c p
  pub number : k ≡ bad_number (slice_index c p)
