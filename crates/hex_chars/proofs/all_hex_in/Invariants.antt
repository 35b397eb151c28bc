-- No distance in what was seen: all of it is hex.
use Rattle.std.proofs.Common.{◌≡◌, ◌==◌, take}
use Rattle.hex_chars.specs.Hex.{all_hex}
use Rattle.hex_chars.proofs.all_hex_in.Given as goal

abbrev pub invariant-loop-c : goal.invariant-loop-c
invariant-loop-c l = (l.far == 0) ≡ all_hex (take l.c-index l.s)
