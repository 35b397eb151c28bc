-- The values that the loop has passed have been put.
use Rattle.std.proofs.Common.{take}
use Rattle.buffer.specs.Put.{Put}
use Rattle.codec.specs.Row.{row_put}
use Rattle.parts.proofs.list.put_all.Given as goal

abbrev pub invariant-loop-value : goal.invariant-loop-value
invariant-loop-value g l = Put l.fn.out l.at (row_put g.F.Format.codec (take l.value-index l.list)) l.out l.next
