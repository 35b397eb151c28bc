-- The first block and what is left overlap; then block by block.
use Rattle.std.proofs.Common.{arith, rules}
use Rattle.hex_chars.proofs.Scan.{blocks_all, blocks}
use Rattle.hex_chars.proofs.all_hex_by_blocks.Goals as goal

pub loop-block-init : goal.loop-block-init
loop-block-init c = search (rules, blocks)

pub loop-block-preserved : goal.loop-block-preserved
loop-block-preserved c = search (rules, blocks)

pub returns : goal.returns
returns c = blocks_all c.args.s.now _ _ _ c.loop-block.invariant (omega arith)
