-- No block before this one has a mark.
use Rattle.std.proofs.Common.{◌*◌, drop}
use Rattle.receiver.specs.Pass.{Behind}
use Rattle.receiver.proofs.pass_blocks.Given as goal

abbrev pub invariant-loop-i : goal.invariant-loop-i
invariant-loop-i g l = Behind g.M.Mark.test l.s (drop (l.i * g.row.WIDTH) l.s)
