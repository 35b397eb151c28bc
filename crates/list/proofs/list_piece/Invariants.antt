-- Calls of `list` took the bytes before the rest.
use Rattle.std.proofs.Common.{length}
use Rattle.list.specs.List.{Over}
use Rattle.list.proofs.list_piece.Given as goal

abbrev pub invariant-loop-rest : goal.invariant-loop-rest
invariant-loop-rest g l = Over l.fn.l l.initial.store l.piece l.now l.store l.rest

abbrev pub decreases-loop-rest : goal.decreases-loop-rest
decreases-loop-rest g l = length l.rest
