-- The array's type says it.
use Rattle.record.specs.Texts.{maker}
use Rattle.parts.proofs.ByteRows.{bytes_fine}
use Rattle.fixed.proofs.texts.MakerTextFormat.is_fine.Goals as goal

pub returns : goal.returns
unfolding maker
returns c = bytes_fine 32 c.args._maker _ c.well_formed.0
