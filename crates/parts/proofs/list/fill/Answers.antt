-- A turn reads one more value.
use Rattle.std.proofs.Common.{rules}
use Rattle.codec.proofs.Rows.{filled_more}
use Rattle.parts.proofs.list.fill.Goals as goal

pub loop-place-preserved : goal.loop-place-preserved
loop-place-preserved g c = search (rules, filled_more)
