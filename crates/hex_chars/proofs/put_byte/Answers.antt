-- One half, and the other after it.
use Rattle.std.proofs.Common.{rules}
use Rattle.hex_chars.proofs.Scan.{pair_put}
use Rattle.hex_chars.proofs.put_byte.Goals as goal

pub returns : goal.returns
returns c = search (rules, pair_put)
