-- A block that has no mark is passed too.
use Rattle.receiver.proofs.Scans.{behind-block}
use Rattle.receiver.proofs.pass_blocks.Goals as goal

pub loop-i-preserved : goal.loop-i-preserved
loop-i-preserved g c =
    let b = c.as_chunks.ensures in
    behind-block g.M.Mark.test c.args.s.now _ _ g.row.WIDTH c.loop-i.i _ b.front b.front_len c.loop-i-test.true c.index-blocks-i.is c.is_in.ensures c.if-is_in.false c.loop-i.invariant
