-- A turn puts one more value.
use Rattle.std.proofs.Common.{rules}
use Rattle.codec.proofs.RowPuts.{put-turn}
use Rattle.parts.proofs.list.put_all.Goals as goal

pub loop-value-preserved : goal.loop-value-preserved
loop-value-preserved g c = search (rules, put-turn)
