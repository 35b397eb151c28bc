-- As many records have been read as the loop has passed places.
use Rattle.std.proofs.Common.{length}
use Rattle.parts.proofs.Turns.{Listed}
use Rattle.parts.proofs.group.read_records.Given as goal

abbrev pub invariant-loop-i : goal.invariant-loop-i
invariant-loop-i g l = Listed g.F.Format.codec g.F.Format.some l.fn.fields (length l.fn.places) l.places l.i l.fields
