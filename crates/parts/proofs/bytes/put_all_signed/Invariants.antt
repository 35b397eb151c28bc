-- The numbers that the loop has passed have been put.
use Rattle.std.proofs.Common.{take}
use Rattle.buffer.specs.Put.{Put}
use Rattle.codec.specs.Numbers.{signed}
use Rattle.codec.specs.Row.{row_put}
use Rattle.parts.proofs.bytes.put_all_signed.Given as goal

abbrev pub invariant-loop-value : goal.invariant-loop-value
invariant-loop-value l = Put l.initial.out l.at (row_put signed (take l.value-index l.list)) l.out l.next
