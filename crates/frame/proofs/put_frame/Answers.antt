-- The head, INFO and the tail, one after the other, are the frame.
use Rattle.std.proofs.Common.{◌≡◌, ◌*◌, ◌%◌, length, ap, ◌∙◌, arith}
use Rattle.frame.proofs.Steps.{length-encode, frame-put}
use Rattle.frame.specs.Frame.{length_of}
use Rattle.frame.proofs.put_frame.Goals as goal

pub returns : goal.returns
returns c =
    let h = c.args.header in
    let info = c.args.info.now in
    let low : 2 * length info % 4096 ≡ 2 * length info = omega arith in
    frame-put h info c.args.out.now _ _ _ _ _ _ _ (omega (arith, c.requires.room.fits, length-encode h info)) (c.length_of-length.ensures ∙ ap length_of low) c.put_head-start.ensures c.put_bytes-end.ensures c.put_tail.ensures
