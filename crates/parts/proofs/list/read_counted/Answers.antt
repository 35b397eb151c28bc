-- The values that were read stand before the zeros.
use Rattle.std.proofs.Common.{sym, arith}
use Rattle.codec.proofs.Counts.{count-goes}
use Rattle.parts.proofs.list.read_counted.Goals as goal

pub returns : goal.returns
returns g c =
    rw c.zero-list.ensures
    (count-goes g.F.Format.codec g.F.Element.zero g.row.N c.args.fields.now (sym c.in_ok-count.ensures) (omega arith) (omega arith) (omega arith) (omega arith) c.in_ok-fill.ensures)
