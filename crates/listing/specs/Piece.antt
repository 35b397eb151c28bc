-- The listing of a stream piece by piece, each into a lent buffer, from any state: what `list` and `close` leave.
use Rattle.std.specs.Prelude.{◌≡◌, ℕ, suc, ◌+◌, ◌-◌, ◌%◌, cond, List, [], ◌∷◌, ◌++◌, length, take, drop, nat_le, nat_lt}
use Rattle.buffer.specs.Writing.{wrote, refused as refused_by, paper, Left, leaves, writing}
use Rattle.frame.specs.Judge.{Told, nothing, frame, refused, refused_at}
use Rattle.receiver.specs.declared.Receiver.{Receiver}
use Rattle.receiver.specs.declared.Receiver.TheVariants.{Waiting}
use Rattle.receiver.specs.Step.{beyond, step}
use Rattle.receiver.specs.Run.{count_of}
use Rattle.listing.specs.declared.Listing.{Listing}
use Rattle.listing.specs.declared.Listed.{Listed}
use Rattle.texts.specs.Block.{Block, block_of, lines, totals}

abbrev pub fresh : Listing
fresh = record { receiver = Waiting; offset = 0; frames = 0; refusals = 0 }

-- how many bytes may still be read: the first 1,073,741,824 and no more
abbrev pub left : Listing → ℕ
left l = 1073741824 - l.offset

-- ---- one byte

-- a total of 32 bits, one more
abbrev pub more : ℕ → ℕ
more n = (n + 1) % 4294967296

abbrev pub frames_then : ℕ → Told → ℕ
frames_then n nothing = n
frames_then n (frame h lenid) = more n
frames_then n (refused number) = n
frames_then n (refused_at number place) = n

abbrev pub refusals_then : ℕ → Told → ℕ
refusals_then n nothing = n
refusals_then n (frame h lenid) = n
refusals_then n (refused number) = more n
refusals_then n (refused_at number place) = more n

-- the listing after k bytes, the last of which gave what is told
abbrev pub onward : Listing → ℕ → Receiver → Told → Listing
onward l k next told =
    record { receiver = next; offset = l.offset + k; frames = frames_then l.frames told; refusals = refusals_then l.refusals told }

-- the offset of the SOI that opened the stretch: it and the characters stand before the next byte
abbrev pub soi_of : Listing → ℕ
soi_of l = l.offset - suc (count_of l.receiver)

-- ---- a piece

-- what listing a part of a piece leaves: the listing and the store then, how many bytes it took, and the blocks of those
pub record Part : Type 0 where
  pub next : Listing
  pub store : List ℕ
  pub taken : ℕ
  pub blocks : List Block

abbrev pub rests : Listing → List ℕ → Part
rests l store = record { next = l; store = store; taken = 0; blocks = [] }

-- the same with k bytes and their blocks before
abbrev pub behind : ℕ → List Block → Part → Part
behind k bs p = record { next = p.next; store = p.store; taken = k + p.taken; blocks = bs ++ p.blocks }

-- byte by byte, as long as 4,200 bytes of the buffer are left for the next event's lines
unfoldable pub listing : Listing → List ℕ → ℕ → List ℕ → Part
listing l store room [] = rests l store
listing l store room (b ∷ bs) =
    let a = step l.receiver store b in
    let block = block_of (soi_of l) a.told a.store in
    cond (nat_le 4200 room)
    (behind 1 block (listing (onward l 1 a.next a.told) a.store (room - length (lines block)) bs))
    (rests l store)

-- what a call of `list` leaves: besides, its outcome and the buffer
pub record Call : Type 0 where
  pub next : Listing
  pub store : List ℕ
  pub taken : ℕ
  pub left : Left

abbrev pub refuses : ℕ → Listing → List ℕ → List ℕ → Call
refuses n l store out = record { next = l; store = store; taken = 0; left = leaves (refused_by n) out }

-- the blocks' lines stand at the front of the buffer, and the rest stays
abbrev pub prints : Part → List ℕ → Call
prints p out =
    let text = lines p.blocks in
    record { next = p.next; store = p.store; taken = p.taken; left = leaves (wrote (length text)) (text ++ drop (length text) out) }

-- call refusals come first: 32 for a store below 4,110 bytes or a buffer below 4,200, then 35
unfoldable pub list : Listing → List ℕ → List ℕ → List ℕ → Call
list l store piece out =
    cond (nat_lt (length store) 4110) (refuses 32 l store out)
    (cond (nat_lt (length out) 4200) (refuses 32 l store out)
    (cond (beyond l.receiver) (refuses 35 l store out)
    (prints (listing l store (length out) (take (left l) piece)) out)))

-- the contract of `list`: its answer, and the store and the buffer then
abbrev pub Lists : Listing → List ℕ → List ℕ → List ℕ → Listed → List ℕ → List ℕ → Type 0
Lists l store piece out answer store' out' =
    record { next = answer.next; store = store'; taken = answer.taken; left = leaves (paper answer.written) out' } ≡ list l store piece out

-- what `close` leaves: 32 for a buffer below 38 bytes, or the two totals at its front
abbrev pub closing : Listing → List ℕ → Left
closing l out = writing 32 (nat_le 38 (length out)) (totals l.frames l.refusals) out
