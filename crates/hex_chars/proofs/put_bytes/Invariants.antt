-- The characters of the bytes so far have been put.
use Rattle.std.proofs.Common.{take}
use Rattle.buffer.specs.Put.{Put}
use Rattle.hex_chars.specs.Hex.{hexes}
use Rattle.hex_chars.proofs.put_bytes.Given as goal

abbrev pub invariant-loop-b : goal.invariant-loop-b
invariant-loop-b l = Put l.initial.out l.at (hexes (take l.b-index l.bytes)) l.out l.next
