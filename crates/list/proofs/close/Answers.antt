-- The totals lie within the buffer.
use Rattle.listing.proofs.Parts.{closes-inside}
use Rattle.list.proofs.close.Goals as goal

pub write_text-requires : goal.write_text-requires
write_text-requires g c = closes-inside c.in_ok-turn.turn.next c.args.out.now c.close-written.result c.close-written.new.out c.close-written.ensures
