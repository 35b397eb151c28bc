-- What is left to list, behind what was put, is the whole.
use Rattle.std.proofs.Common.{◌≡◌, ◌+◌, ◌-◌, ◌≤◌, length, drop}
use Rattle.receiver.specs.Pass.{Fits}
use Rattle.listing.specs.Piece.{left, listing}
use Rattle.listing.proofs.Parts.{ended}
use Rattle.listing.proofs.Listing.list_within.Given as goal

abbrev pub invariant-loop-part : goal.invariant-loop-part
invariant-loop-part l = record {
  few : l.part.taken ≤ length l.piece;
  limit : length l.piece ≤ l.part.taken + left l.part.next;
  within : l.part.end ≤ length l.out;
  fits : Fits l.part.next.receiver l.store;
  whole : ended (listing l.part.next l.store (length l.out - l.part.end) (drop l.part.taken l.piece)) l.out l.part.end l.part.taken
      ≡ ended (listing l.fn.self l.fn.store (length l.fn.out) l.piece) l.fn.out 0 0;
}

abbrev pub decreases-loop-part : goal.decreases-loop-part
decreases-loop-part l = length l.piece - l.part.taken
