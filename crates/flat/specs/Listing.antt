-- A listing for C: its receiver as numbers, the offset and the two totals.
use Rattle.std.specs.Prelude.{◌≡◌, List, ℕ}
use Rattle.listing.specs.declared.Listing.{Listing}
use Rattle.listing.specs.Piece.{Call}
use Rattle.flat.specs.declared.FlatListing.{FlatListing}
use Rattle.flat.specs.declared.FlatListed.{FlatListed}
use Rattle.flat.specs.Flat.{flat_receiver, receiver_of, written_of}

abbrev pub flat_listing : Listing → FlatListing
flat_listing l = record { receiver = flat_receiver l.receiver; offset = l.offset; frames = l.frames; refusals = l.refusals }

abbrev pub listing_back : FlatListing → Listing
listing_back f = record { receiver = receiver_of f.receiver; offset = f.offset; frames = f.frames; refusals = f.refusals }

abbrev pub listed_of : Call → FlatListed
listed_of call = record { next = flat_listing call.next; taken = call.taken; written = written_of call.left.outcome }

-- the contract of a listing's call: its answer, and the store and the buffer then
abbrev pub FlatLists : Call → FlatListed → List ℕ → List ℕ → Type 0
FlatLists call r store out = (r ≡ listed_of call) × ((store ≡ call.store) × (out ≡ call.left.out))
