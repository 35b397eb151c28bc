-- SOI, the characters of four bytes, and those of LENGTH after them.
use Rattle.std.proofs.Common.{arith}
use Rattle.frame.specs.Frame.{packed}
use Rattle.buffer.proofs.Puts.{put_then}
use Rattle.hex_chars.specs.Hex.{hexes}
use Rattle.frame.proofs.put_head.Goals as goal

pub returns : goal.returns
unfolding packed hexes
returns c = put_then (record { fits = omega arith }) (put_then (record { fits = omega arith }) c.put-start.ensures c.put_bytes-next.ensures) c.put_word.ensures
