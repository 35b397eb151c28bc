-- The places that the loop has passed hold the value.
use Rattle.std.proofs.Common.{◌≡◌, replicate, take}
use Rattle.parts.proofs.group.fill_with.Given as goal

abbrev pub invariant-loop-place : goal.invariant-loop-place
invariant-loop-place g l = take l.place-index l.place-items ≡ replicate l.place-index l.value
