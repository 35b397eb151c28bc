-- A turn reads one more record.
use Rattle.std.proofs.Common.{length, arith}
use Rattle.parts.proofs.Turns.{listed_more}
use Rattle.parts.proofs.group.read_records.Goals as goal

pub loop-i-preserved : goal.loop-i-preserved
loop-i-preserved g c =
    listed_more g.F.Format.codec g.F.Format.some c.args.fields (length c.args.places.now) c.loop-i.invariant (omega arith) (grind arith) c.in_ok-places.ensures
