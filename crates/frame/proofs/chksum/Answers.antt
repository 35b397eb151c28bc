-- A turn adds one block; behind the last one the sum of all is taken from zero.
use Rattle.std.proofs.Common.{rules}
use Rattle.frame.proofs.Steps.{sum_block, sum_all}
use Rattle.frame.proofs.chksum.Goals as goal

pub loop-block-preserved : goal.loop-block-preserved
loop-block-preserved c = search (rules, sum_block)

pub returns : goal.returns
returns c = search (rules, sum_all)
