-- What was read so far is listed, and less is left after each turn that goes on.
use Rattle.std.proofs.Common.{[], ◌<◌}
use Rattle.listing.specs.Piece.{left}
use Rattle.list.specs.List.{Sofar}
use Rattle.list.proofs.list_all.Given as goal

abbrev pub invariant-loop-turn : goal.invariant-loop-turn
invariant-loop-turn g l = record { some : 0 < left l.now; sofar : Sofar l.initial.store l.now l.store [] }

abbrev pub decreases-loop-turn : goal.decreases-loop-turn
decreases-loop-turn g l = left l.now
