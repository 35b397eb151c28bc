-- What was added is the sum of what fills no block, and of the blocks so far.
use Rattle.std.proofs.Common.{◌≡◌, ◌+◌, ◌*◌, ◌/◌, ◌%◌, length, take, drop, sum}
use Rattle.frame.proofs.chksum.Given as goal

abbrev pub invariant-loop-block : goal.invariant-loop-block
invariant-loop-block l = l.total ≡ (sum (drop (length l.characters / 64 * 64) l.characters) + sum (take (64 * l.block-index) l.characters)) % 65536
