-- CHKSUM, and CR after it.
use Rattle.std.proofs.Common.{arith}
use Rattle.buffer.proofs.Puts.{put_then}
use Rattle.hex_chars.proofs.Laws.{length-hexes}
use Rattle.hex_chars.specs.Hex.{word}
use Rattle.frame.proofs.put_tail.Goals as goal

pub returns : goal.returns
returns c =
    rw (← c.chksum-check.ensures) (put_then (record { fits = omega (arith, length-hexes (word c.chksum-check.result)) }) c.put_word-last.ensures c.put.ensures)
