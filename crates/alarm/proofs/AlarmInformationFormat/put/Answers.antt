-- Part after part.
use Rattle.std.proofs.Common.{length-append, arith}
use Rattle.std.proofs.lemmas.Bool.{and_parts}
use Rattle.codec.specs.Codec.{byte}
use Rattle.codec.proofs.RowPuts.{row_long}
use Rattle.record.specs.Alarm.{alarm, codes, singles}
use Rattle.buffer.proofs.Puts.{put_then}
use Rattle.alarm.specs.Laws.{parts}
use Rattle.alarm.proofs.AlarmInformationFormat.put.Goals as goal

pub put-at-requires-3-clause-ok : goal.put-at-requires-3-clause-ok
unfolding singles
put-at-requires-3-clause-ok c = (and_parts _ _ (and_parts _ _ (parts c.args.alarm c.requires.ok).singles).1).1

pub put_all-requires-clause-ok : goal.put_all-requires-clause-ok
put_all-requires-clause-ok c = let p = parts c.args.alarm c.requires.ok in rw (row_long byte 5 c.args.alarm.status p.status) p.status

pub returns : goal.returns
unfolding alarm codes singles
returns c =
    let r = simp length-append at c.requires.room.fits in
    put_then (record { fits = omega arith }) c.put_counted-at.ensures
    (put_then (record { fits = omega arith }) c.put_counted-at-2.ensures
    (put_then (record { fits = omega arith }) c.put-at.ensures
    (put_then (record { fits = omega arith }) c.put-at-2.ensures
    (put_then (record { fits = omega arith }) c.put-at-3.ensures c.put_all.ensures))))
