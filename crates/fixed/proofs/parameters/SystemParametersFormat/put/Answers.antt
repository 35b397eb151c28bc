-- The twelve words.
use Rattle.std.proofs.Common.{rules}
use Rattle.parts.proofs.PutAs.{put_as}
use Rattle.record.specs.Parameters.{parameters}
use Rattle.fixed.proofs.parameters.SystemParametersFormat.put.Goals as goal

pub returns : goal.returns
unfolding parameters
returns c = put_as c.put_words.ensures (search rules)
