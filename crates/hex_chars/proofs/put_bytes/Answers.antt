-- Nothing is put at first; each byte puts its two characters after those of the others.
use Rattle.std.proofs.Common.{rules}
use Rattle.hex_chars.proofs.Scan.{put_each}
use Rattle.hex_chars.proofs.put_bytes.Goals as goal

pub loop-b-init : goal.loop-b-init
loop-b-init c = search (rules, put_each)

pub loop-b-preserved : goal.loop-b-preserved
loop-b-preserved c = search (rules, put_each)
