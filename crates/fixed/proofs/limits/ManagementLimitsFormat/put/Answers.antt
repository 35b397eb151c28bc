-- The two words, the two signed numbers, then status.
use Rattle.std.proofs.Common.{arith, rules}
use Rattle.buffer.proofs.Puts.{put_then}
use Rattle.parts.proofs.PutAs.{put_as}
use Rattle.record.specs.Limits.{limits}
use Rattle.fixed.proofs.limits.ManagementLimitsFormat.put.Goals as goal

pub returns : goal.returns
unfolding limits
returns c =
    let r = c.requires.room.fits in
    put_as (put_then (record { fits = omega (arith, r) }) c.put_words-at.ensures (put_then (record { fits = omega (arith, r) }) c.put_all_signed-at.ensures c.put.ensures)) (search rules)
