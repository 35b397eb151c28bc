-- Calls of `list` took the bytes before the rest.
use Rattle.std.proofs.Common.{rules}
use Rattle.std.proofs.lemmas.List.{take_rest}
use Rattle.list.proofs.Over.{over_none, parts-front, parts-more, pieces-none}
use Rattle.list.proofs.list_piece.Goals as goal

pub loop-rest-init : goal.loop-rest-init
loop-rest-init g c = over_none c.args.l c.args.store.now c.args.piece.now

pub returns-in_err-part : goal.returns-in_err-part
returns-in_err-part g c =
    pieces-none c.args.l c.args.store.now c.args.piece.now c.from_residual.result c.list_part.new.store c.from_residual.ensures (parts-front c.loop-rest.invariant c.list_part.ensures)

pub returns-then-is_stuck : goal.returns-then-is_stuck
returns-then-is_stuck g c = parts-front c.loop-rest.invariant c.list_part.ensures

pub slice_bounds-rest-count : goal.slice_bounds-rest-count
slice_bounds-rest-count g c = (parts-more c.loop-rest.invariant c.in_ok-part.ensures).0

pub slice_bounds-rest-start : goal.slice_bounds-rest-start
slice_bounds-rest-start g c = let more = parts-more c.loop-rest.invariant c.in_ok-part.ensures in search (rules, more)

pub loop-rest-preserved : goal.loop-rest-preserved
loop-rest-preserved g c = rw take_rest (parts-more c.loop-rest.invariant c.in_ok-part.ensures).1
