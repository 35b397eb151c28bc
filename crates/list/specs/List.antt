-- What the program has listed: by calls of `list`, one after the other from the fresh listing on, over the bytes that were read.
use Rattle.std.specs.Prelude.{◌≡◌, ◌⊎◌, Bool, false, ◌&&◌, cond, List, [], ◌++◌, ℕ, ◌≤◌, min, length, take, nat_lt, ◌==◌, Option, Some, None, IfSome, Result, Ok, Err}
use Rattle.refusal.specs.declared.Refusal.{Refusal}
use Rattle.listing.specs.declared.Listing.{Listing}
use Rattle.listing.specs.declared.Listed.{Listed}
use Rattle.listing.specs.Stream.{listing_of}
use Rattle.listing.specs.Piece.{fresh, left, Lists, closing}
use Rattle.listing.specs.Calls.{Given, calls}
use Rattle.list.specs.declared.Turn.{Turn}

-- ---- a part of a piece

-- a text that was refused is not written; of one that was given to the operating system, its answer decides
abbrev pub Says : Result ℕ Refusal → Option (Unit {0}) → Type 0
Says (Ok n) written = Unit {0}
Says (Err r) written = written ≡ None

-- what is handed on of the answer of `list`: all of it, or nothing where its text was not written
abbrev pub part_of : Option (Unit {0}) → Listed → Option Listed
part_of (Some done) answer = Some answer
part_of None answer = None

-- the store and the buffer are as `list` leaves them, and its answer is handed on, by whether its text was written
pub record Parts (l : Listing) (store piece out : List ℕ) (part : Option Listed) (store' out' : List ℕ) : Type 0 where
  pub answer : Listed
  pub lists : Lists l store piece out answer store' out'
  pub handed : IfSome part (λ handed. handed ≡ answer)

-- ---- a piece

-- calls of `list` over these bytes, which left the listing and the store so, and this rest
pub record Over (l : Listing) (store bytes : List ℕ) (next : Listing) (store' rest : List ℕ) : Type 0 where
  pub given : List Given
  pub said : List ℕ
  pub is : calls l store bytes given ≡ record { next = next; store = store'; rest = rest; said = said }

-- calls over a front of these bytes, which left the store so
abbrev pub Front : Listing → List ℕ → List ℕ → List ℕ → Type 0
Front l store bytes store' = (last : Listing) × (rest : List ℕ) × Over l store bytes last store' rest

-- calls over the whole piece; or, where a text was not written, over a front of it
abbrev pub Pieces : Listing → List ℕ → List ℕ → Option Listing → List ℕ → Type 0
Pieces l store piece (Some next) store' = Over l store piece next store' []
Pieces l store piece None store' = Front l store piece store'

-- ---- a read

-- what a read that is handed n bytes may answer: how many it put at the front of the buffer, at most n, or nothing where it failed
abbrev pub Moved : ℕ → Option ℕ → Type 0
Moved n read = IfSome read (λ k. k ≤ n)

-- these bytes
abbrev pub got : ℕ → List ℕ → List ℕ
got read buffer = take (min read (length buffer)) buffer

-- they are listed, and so many are handed on
abbrev pub Gets : ℕ → List ℕ → Listing → List ℕ → Option Turn → List ℕ → Type 0
Gets read buffer l store (Some turn) store' = (turn.read ≡ read) × Over l store (got read buffer) turn.next store' []
Gets read buffer l store None store' = Front l store (got read buffer) store'

-- where a read failed nothing is listed or handed on
abbrev pub Handles : Option ℕ → List ℕ → Listing → List ℕ → Option Turn → List ℕ → Type 0
Handles (Some read) buffer l store turn store' = Gets read buffer l store turn store'
Handles None buffer l store turn store' = (turn ≡ None) × (store' ≡ store)

-- a read of no more than is left, and of no more than the buffer holds
pub record Turns (buffer : List ℕ) (l : Listing) (store : List ℕ) (turn : Option Turn) (store' : List ℕ) : Type 0 where
  pub read : Option ℕ
  pub moved : Moved (min (left l) (length buffer)) read
  pub handled : Handles read buffer l store turn store'

-- ---- all reads

-- after a turn the next one comes where the read gave a byte, and the limit is not reached
abbrev pub goes_on : Turn → Bool
goes_on turn = nat_lt 0 turn.read && nat_lt 0 (left turn.next)

-- whether nothing failed, and the limit is reached
abbrev pub at_limit : Option Turn → Bool
at_limit (Some turn) = left turn.next == 0
at_limit None = false

-- calls over the bytes that were read, one after the other
pub record Sofar (store : List ℕ) (next : Listing) (store' rest : List ℕ) : Type 0 where
  pub bytes : List ℕ
  pub few : length bytes ≤ 1073741824
  pub listed : Over fresh store bytes next store' rest

-- all of them are listed, and no turn follows; or, where a read or a write failed, a front of them
abbrev pub All : List ℕ → Option Turn → List ℕ → Type 0
All store (Some turn) store' = Sofar store turn.next store' [] × (goes_on turn ≡ false)
All store None store' = (last : Listing) × (rest : List ℕ) × Sofar store last store' rest

-- ---- the whole run

-- the totals, where nothing failed; whether they were written decides from then on
abbrev pub Closes : Option Turn → List ℕ → Option Turn → List ℕ → Type 0
Closes None out turn' out' = (turn' ≡ None) × (out' ≡ out)
Closes (Some turn) out turn' out' = IfSome turn' (λ same. same ≡ turn) × (out' ≡ (closing turn.next out).out)

-- the last read gave no byte or the limit is reached, and the texts of the calls, and then the front of the buffer, are the listing of the bytes that were read
pub record Printed (store : List ℕ) (turn : Turn) (store' out : List ℕ) : Type 0 where
  pub bytes : List ℕ
  pub listed : Over fresh store bytes turn.next store' []
  pub few : length bytes ≤ 1073741824
  pub ended : (turn.read ≡ 0) ⊎ (length bytes ≡ 1073741824)
  pub n : ℕ
  pub is : listed.said ++ take n out ≡ listing_of bytes

-- where nothing failed
abbrev pub Prints : List ℕ → Option Turn → List ℕ → List ℕ → Type 0
Prints store turn store' out = IfSome turn (λ last. Printed store last store' out)

-- with an argument beside the program's name nothing is listed
abbrev pub Program : ℕ → List ℕ → List ℕ → Bool → List ℕ → List ℕ → Type 0
Program arguments store out limit store' out' =
    cond (nat_lt 1 arguments) ((limit ≡ false) × (store' ≡ store) × (out' ≡ out))
    ((turn : Option Turn) × Prints store turn store' out' × (limit ≡ at_limit turn))
