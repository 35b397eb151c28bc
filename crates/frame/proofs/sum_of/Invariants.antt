-- What was added is the sum of what was seen.
use Rattle.std.proofs.Common.{◌≡◌, ◌%◌, take, sum}
use Rattle.frame.proofs.sum_of.Given as goal

abbrev pub invariant-loop-c : goal.invariant-loop-c
invariant-loop-c l = l.total ≡ sum (take l.c-index l.characters) % 65536
