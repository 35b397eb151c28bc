-- The members before the index have their values, and those that are left take the values that are left.
use Rattle.std.specs.Slice.Iter.{iter_rest}
use Rattle.table.proofs.changes.Dealing.{Dealing}
use Rattle.table.proofs.changes.deal_out.Given as goal

abbrev pub invariant-loop-member : goal.invariant-loop-member
invariant-loop-member g l = Dealing g.P.Part.with l.fn.members l.fn.values l.member-items l.member-index (iter_rest l.left)
