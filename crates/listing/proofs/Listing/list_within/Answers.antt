-- What is left to list, behind what was put, is the whole.
use Rattle.std.proofs.Common.{arith}
use Rattle.listing.proofs.Parts.{ended-run, loop_steps}
use Rattle.listing.proofs.Listing.list_within.Goals as goal

pub loop-part-preserved : goal.loop-part-preserved
loop-part-preserved c =
    let l = c.loop-part in
    let run =
    ended-run l.part.next l.store c.args.piece.now l.out l.part.end l.part.taken c.advance-one.result c.advance-one.new.store c.advance-one.new.out
    l.invariant.fits (omega arith) c.advance-one.auto.out c.advance-one.ensures in
    grind (arith, loop_steps)
