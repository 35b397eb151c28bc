-- What a listing tells of a stream: the frames of exactly the whole encodings, and of each block the SOI that opened its stretch.
use Rattle.std.specs.Prelude.{◌≡◌, ℕ, suc, ◌<◌, ◌≤◌, ◌≢◌, ◌↔◌, List, [], ◌∷◌, length, replicate, slice_index, slice_index_or}
use mathlib.Core.List.{Memᴰ as Among}
use Rattle.std.proofs.Math.Seq.{slice}
use Rattle.frame.specs.declared.Header.{Header}
use Rattle.frame.specs.Frame.{SOI, info_at}
use Rattle.frame.specs.Judge.{refused}
use Rattle.receiver.specs.Stream.{told_at, Stretch}
use Rattle.receiver.specs.Place.{BadStretch}
use Rattle.texts.specs.Block.{Block, frame_block, refusal_block, placed_block}

-- the SOI at i opened the stretch of the byte at j: it is the last one before it
pub record Opened (stream : List ℕ) (i j : ℕ) : Type 0 where
  pub order : i < j
  pub soi : slice_index_or stream i 0 ≡ SOI
  pub last : (k : ℕ) → i < k → k < j → slice_index stream k ≢ SOI

-- a stretch that is a whole encoding, from its SOI at i, and its INFO characters
pub record Encoding (stream : List ℕ) (i : ℕ) (h : Header) (info : List ℕ) : Type 0 where
  pub cr : ℕ
  pub lenid : ℕ
  pub stretch : Stretch stream i cr h lenid
  pub is : info ≡ info_at lenid (slice (suc i) cr stream)

-- a byte at which a fresh receiver refuses, with this number and no place, in the stretch that the SOI at i opened
pub record Refusal (stream : List ℕ) (i number : ℕ) : Type 0 where
  pub byte : ℕ
  pub inside : byte < length stream
  pub told : told_at (replicate 4110 0) stream byte ≡ refused number
  pub opened : Opened stream i byte

abbrev pub Right : List ℕ → Block → Type 0
Right stream (frame_block at h info) = Encoding stream at h info
Right stream (refusal_block at number) = Refusal stream at number
Right stream (placed_block at number place) = (cr : ℕ) × BadStretch stream at cr number place

abbrev pub at : Block → ℕ
at (frame_block i h info) = i
at (refusal_block i number) = i
at (placed_block i number place) = i

-- each stretch is opened behind the one before it, and none before place n
unfoldable pub Rising : ℕ → List Block → Type 0
Rising n [] = Unit {0}
Rising n (b ∷ bs) = (n ≤ at b) × Rising (suc (at b)) bs

pub record Tells (stream : List ℕ) (blocks : List Block) : Type 0 where
  -- the frame blocks are the stretches that are whole encodings, the refusal blocks the bytes that are refused, those with a place the stretches
  -- with a character that isn't hex, all of them and no others
  pub exactly : (b : Block) → Among b blocks ↔ Right stream b
  -- in the order of their SOIs, each once
  pub in_order : Rising 0 blocks
