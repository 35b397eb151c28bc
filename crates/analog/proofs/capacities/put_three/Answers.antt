-- The word, then the last byte.
use Rattle.std.proofs.Common.{arith}
use Rattle.buffer.proofs.Puts.{put_then}
use Rattle.analog.proofs.capacities.put_three.Goals as goal

pub returns : goal.returns
returns c = put_then (record { fits = omega arith }) c.put_word-next.ensures c.put.ensures
