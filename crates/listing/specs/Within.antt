-- Nobody has to believe these: they are words of the contracts of private functions, by which the proofs go from one to the next.
use Rattle.std.specs.Prelude.{◌≡◌, ℕ, ◌+◌, ◌-◌, ◌≤◌, List, length, take, drop, Result, IfOk, Option, Some, None, if◌then◌else◌, ◌||◌, nat_lt}
use Rattle.refusal.specs.declared.Refusal.{Refusal}
use Rattle.refusal.specs.declared.Refusal.TheVariants.{BufferTooShort, ReceiverBeyondStore}
use Rattle.buffer.specs.Put.{Put}
use Rattle.frame.specs.Frame.{info_at}
use Rattle.frame.specs.Judge.{Told, nothing, frame, refused, refused_at}
use Rattle.receiver.specs.Step.{beyond}
use Rattle.receiver.specs.Run.{Run}
use Rattle.texts.specs.Block.{block_of, six_lines, frame_lines, lines}
use Rattle.listing.specs.declared.Listing.{Listing}
use Rattle.listing.specs.declared.Part.{Part as PartOf}
use Rattle.listing.specs.Piece.{onward, Part}

-- what a writer says that it wrote stands within its buffer
abbrev pub Inside : Result ℕ Refusal → List ℕ → Type 0
Inside written out = IfOk written (λ n. n ≤ length out)

-- what one run of the receiver gives: its event's block, whose SOI and characters stand before the byte of the event
abbrev pub turn : Listing → Run → Part
turn l a =
    record {
      next = onward l a.taken a.next a.told;
      store = a.store;
      taken = a.taken;
      blocks = block_of (l.offset + a.taken - (a.held + 2)) a.told a.store;
    }

-- a frame's six lines, of the characters that stand in the store
abbrev pub stored_lines : ℕ → ℕ → List ℕ → List ℕ
stored_lines at lenid store = six_lines at (take 2 store) (take 2 (drop 2 store)) (take 2 (drop 4 store)) (take 2 (drop 6 store)) (info_at lenid store)

-- a frame that is told stands in the store
abbrev pub Stands : Told → List ℕ → Type 0
Stands nothing store = Unit {0}
Stands (frame h lenid) store = (lenid ≤ 4094) × ((at : ℕ) → stored_lines at lenid store ≡ frame_lines at h (info_at lenid store))
Stands (refused number) store = Unit {0}
Stands (refused_at number place) store = Unit {0}

-- a part was listed, and its lines put at place at
pub record Puts (p : Part) (out : List ℕ) (at : ℕ) (answer : PartOf) (store' out' : List ℕ) : Type 0 where
  pub part : record { next = answer.next; store = store'; taken = answer.taken; blocks = p.blocks } ≡ p
  pub put : Put out at (lines p.blocks) out' answer.end

-- what a call is refused with, if at all
unfoldable pub call_refusal : Listing → List ℕ → List ℕ → Option Refusal
call_refusal l store out =
    if nat_lt (length store) 4110 || nat_lt (length out) 4200 then Some BufferTooShort
    else (if beyond l.receiver then Some ReceiverBeyondStore else None)
