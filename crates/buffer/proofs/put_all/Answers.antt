-- When all bytes have been copied, the whole text has.
use Rattle.std.proofs.Common.{◌≡◌, length, arith}
use Rattle.buffer.proofs.Puts.{copied_all}
use Rattle.buffer.proofs.put_all.Goals as goal

pub returns : goal.returns
returns c =
    let all : c.loop-i.i ≡ length c.args.text.now = omega arith in
    copied_all c.args.out.now c.args.text.now c.loop-i.out c.args.at c.loop-i.i all c.loop-i.invariant
