-- Stepping over what is left, with the bytes before it taken, is stepping over the whole piece.
use Rattle.std.proofs.Common.{length, ◌-◌, ◌≤◌, ◌≡◌}
use Rattle.receiver.specs.Run.{later, stepping}
use Rattle.receiver.specs.Pass.{Fits}
use Rattle.receiver.proofs.Receiver.run_within.Given as goal

abbrev pub invariant-loop-byte : goal.invariant-loop-byte
invariant-loop-byte l =
    (length l.rest ≤ length l.piece) × Fits l.now l.store
    × (stepping l.initial.now l.initial.store l.piece ≡ later (length l.piece - length l.rest) (stepping l.now l.store l.rest))

abbrev pub decreases-loop-byte : goal.decreases-loop-byte
decreases-loop-byte l = length l.rest
