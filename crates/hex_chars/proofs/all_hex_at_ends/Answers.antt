-- The first block and the last leave no character out.
use Rattle.std.proofs.Common.{◌-◌, ◌&&◌, length, ap, ◌∙◌, ap₂, arith}
use Rattle.hex_chars.proofs.Scan.{overlap, rest_is}
use Rattle.hex_chars.specs.Hex.{all_hex}
use Rattle.hex_chars.proofs.all_hex_at_ends.Goals as goal

pub returns : goal.returns
returns c =
    let s = c.args.s.now in
    let last = length s - c.args.block in
    ap₂ (λ (a b : _). a && b) c.all_hex_in.ensures (c.all_hex_in-2.ensures ∙ ap all_hex (rest_is s last)) ∙ overlap s last c.args.block (omega arith)
