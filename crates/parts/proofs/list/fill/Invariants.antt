-- As many values have been read as the loop has passed places.
use Rattle.std.proofs.Common.{length}
use Rattle.codec.proofs.Rows.{Filled}
use Rattle.parts.proofs.list.fill.Given as goal

abbrev pub invariant-loop-place : goal.invariant-loop-place
invariant-loop-place g l = Filled g.F.Format.codec l.fn.fields (length l.fn.list) l.place-items l.place-index l.fields
