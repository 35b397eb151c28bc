-- The calls that C has for those of `list`.
use Rattle.std.specs.Prelude.{◌≡◌, cond, List, ℕ, take, eqb}
use Rattle.buffer.specs.Writing.{Outcome, wrote, refused, leaves}
use Rattle.listing.specs.Piece.{list}
use Rattle.listing.specs.Calls.{Given}
use Rattle.listing.specs.Made.{Caller}
use Rattle.flat.specs.declared.FlatWritten.{FlatWritten}
use Rattle.flat.specs.declared.FlatListing.{FlatListing}
use Rattle.flat.specs.declared.FlatListed.{FlatListed}
use Rattle.flat.specs.Listing.{listing_back, FlatLists}

-- what the numbers of a writer's answer say
abbrev pub outcome_of : FlatWritten → Outcome
outcome_of w = cond (eqb w.number 0) (wrote w.length) (refused w.number)

-- a call: the listing that it is given, and the rest as of `list`
pub record FlatMade : Type 0 where
  pub listing : FlatListing
  pub given : Given
  pub answer : FlatListed
  pub store : List ℕ
  pub out : List ℕ

abbrev pub fromCListing : Caller
fromCListing = record {
  Made = FlatMade;
  given = λ m. m.given;
  leaves = λ m. record { next = listing_back m.answer.next; store = m.store; taken = m.answer.taken; left = leaves (outcome_of m.answer.written) m.out };
  Keeps = λ l store stream m. (listing_back m.listing ≡ l) × FlatLists (list (listing_back m.listing) store (take m.given.most stream) m.given.out) m.answer m.store m.out;
}
