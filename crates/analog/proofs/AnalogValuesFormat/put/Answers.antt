-- Part after part.
use Rattle.std.proofs.Common.{SFits, w16, to_z-of_z, length-append, arith, rules}
use Rattle.record.specs.Analog.{analog, measured}
use Rattle.buffer.proofs.Puts.{put_then}
use Rattle.analog.proofs.AnalogValuesFormat.put.Goals as goal

pub returns : goal.returns
unfolding analog measured
returns c =
    let r = simp length-append at c.requires.room.fits in
    let f : SFits w16 c.args.analog.current = search rules in
    let p = rw (to_z-of_z f) at c.put_signed-at.ensures in
    put_then (record { fits = omega arith }) c.put_counted-at.ensures
    (put_then (record { fits = omega arith }) c.put_counted-at-2.ensures
    (put_then (record { fits = omega arith }) p
    (put_then (record { fits = omega arith }) c.put_word-at.ensures c.put.ensures)))
