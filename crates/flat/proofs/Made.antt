-- The listing for C: the numbers say what the enums do, so its calls are those of `list`.
use Rattle.std.proofs.Common.{◌≡◌, refl, ap, ◌∙◌, List, ℕ, length, take, ltb}
use Rattle.buffer.specs.Writing.{leaves}
use Rattle.buffer.proofs.Lists.{by_cond}
use Rattle.receiver.specs.Step.{beyond}
use Rattle.listing.specs.declared.Listing.{Listing}
use Rattle.listing.specs.Piece.{Call, list}
use Rattle.listing.specs.Made.{ListsStream}
use Rattle.listing.proofs.Made.{lists-stream-of}
use Rattle.flat.specs.declared.FlatListed.{FlatListed}
use Rattle.flat.specs.Flat.{written_of}
use Rattle.flat.specs.Listing.{flat_listing, listing_back}
use Rattle.flat.specs.Made.{outcome_of, FlatMade, fromCListing}
use Rattle.flat.proofs.Demand.{receiver-back}

pub listing-back : (l : Listing) → listing_back (flat_listing l) ≡ l
listing-back l = λ i. record { receiver = receiver-back l.receiver i; offset = l.offset; frames = l.frames; refusals = l.refusals }

-- the numbers of a call's refusals are none that means writing
outcome-back : (l : Listing) (store piece out : List ℕ) → let o = (list l store piece out).left.outcome in outcome_of (written_of o) ≡ o
unfolding list
outcome-back l store piece out =
    by_cond (λ (a : Call). outcome_of (written_of a.left.outcome) ≡ a.left.outcome) (ltb (length store) 4110) (λ _. refl)
    (λ _. by_cond (λ (a : Call). outcome_of (written_of a.left.outcome) ≡ a.left.outcome) (ltb (length out) 4200) (λ _. refl)
    (λ _. by_cond (λ (a : Call). outcome_of (written_of a.left.outcome) ≡ a.left.outcome) (beyond l.receiver) (λ _. refl) (λ _. refl)))

is-list : (l : Listing) (store stream : List ℕ) (m : FlatMade) → fromCListing.Keeps l store stream m
    → fromCListing.leaves m ≡ list l store (take m.given.most stream) m.given.out
is-list l store stream m (same, (answer, (stores, outs))) =
    let a = list (listing_back m.listing) store (take m.given.most stream) m.given.out in
    let next : listing_back m.answer.next ≡ a.next = ap (λ (x : FlatListed). listing_back x.next) answer ∙ listing-back a.next in
    let taken : m.answer.taken ≡ a.taken = ap (λ (x : FlatListed). x.taken) answer in
    let told : outcome_of m.answer.written ≡ a.left.outcome =
    ap (λ (x : FlatListed). outcome_of x.written) answer ∙ outcome-back (listing_back m.listing) store (take m.given.most stream) m.given.out in
    (λ i. record { next = next i; store = stores i; taken = taken i; left = leaves (told i) (outs i) })
    ∙ ap (λ (x : Listing). list x store (take m.given.most stream) m.given.out) same

-- however C cuts a stream into calls of `hanuzak_list`
pub flat-lists-stream : ListsStream fromCListing
flat-lists-stream = lists-stream-of fromCListing is-list
