-- What was seen so far.
use Rattle.std.proofs.Common.{take, ◌≡◌, ◌||◌}
use Rattle.std.specs.List.{list_any}
use Rattle.receiver.specs.Pass.{is_end}
use Rattle.receiver.proofs.EndMark.is_in.Given as goal

abbrev pub invariant-loop-x : goal.invariant-loop-x
invariant-loop-x l = (l.soi || l.cr) ≡ list_any is_end (take l.x-index l.block)
