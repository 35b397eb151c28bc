-- The array's type says it.
use Rattle.record.specs.Texts.{serial}
use Rattle.parts.proofs.ByteRows.{bytes_fine}
use Rattle.fixed.proofs.texts.SerialNumberFormat.is_fine.Goals as goal

pub returns : goal.returns
unfolding serial
returns c = bytes_fine 16 c.args._serial _ c.well_formed.0
