-- What was seen so far.
use Rattle.std.proofs.Common.{take, ◌≡◌}
use Rattle.std.specs.List.{list_any}
use Rattle.receiver.specs.Pass.{is_soi}
use Rattle.receiver.proofs.SoiMark.is_in.Given as goal

abbrev pub invariant-loop-x : goal.invariant-loop-x
invariant-loop-x l = l.hit ≡ list_any is_soi (take l.x-index l.block)
