-- The text of an answer of `list` lies within the buffer.
use Rattle.listing.proofs.Parts.{lists-inside}
use Rattle.list.proofs.list_part.Goals as goal

pub write_text-written-requires : goal.write_text-written-requires
write_text-written-requires g c = lists-inside c.args.l c.args.store.now c.args.piece.now c.args.out.now c.list-listed.result c.list-listed.new.store c.list-listed.new.out c.list-listed.ensures
