-- The bytes with items 2, and those with items 4, part after part.
use Rattle.std.proofs.Common.{arith, le-leb}
use Rattle.std.proofs.lemmas.Bool.{lt-leb}
use Rattle.buffer.proofs.Puts.{put_then}
use Rattle.record.specs.Capacities.{capacities}
use Rattle.analog.proofs.capacities.CapacitiesFormat.put.Goals as goal

pub returns-then-total-le65000 : goal.returns-then-total-le65000
unfolding capacities
returns-then-total-le65000 c =
    let e = le-leb c.args.arg3.1.0 65000 c.if-total-le65000.true in
    let r = rw e at c.requires.room.fits in
    rw e
    (put_then (record { fits = omega arith }) c.put_word-at.ensures
    (put_then (record { fits = omega arith }) c.put-at.ensures
    (put_then (record { fits = omega arith }) c.put_word-at-then-total-le65000.ensures c.put_word.ensures)))

pub returns : goal.returns
unfolding capacities
returns c =
    let e = lt-leb c.args.arg3.1.0 65000 c.if-total-le65000.false in
    let r = rw e at c.requires.room.fits in
    rw e
    (put_then (record { fits = omega arith }) c.put_word-at-2.ensures
    (put_then (record { fits = omega arith }) c.put-at-2.ensures
    (put_then (record { fits = omega arith }) c.put_word-at-3.ensures
    (put_then (record { fits = omega arith }) c.put_word-at-4.ensures
    (put_then (record { fits = omega arith }) c.put_three-at.ensures c.put_three.ensures)))))
