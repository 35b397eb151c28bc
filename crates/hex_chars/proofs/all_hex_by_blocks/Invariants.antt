-- What was seen and what is left decide together.
use Rattle.std.proofs.Common.{◌≡◌, ◌+◌, ◌*◌, ◌%◌, ◌&&◌, length, drop}
use Rattle.hex_chars.specs.Hex.{all_hex}
use Rattle.hex_chars.proofs.all_hex_by_blocks.Given as goal

abbrev pub invariant-loop-block : goal.invariant-loop-block
invariant-loop-block l = (l.good && all_hex (drop (length l.s % 64 + 64 * l.block-index) l.s)) ≡ all_hex l.s
