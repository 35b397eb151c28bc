-- The listing of a stream: the lines of each event that the receiver gives, in order, and the two totals.
use Rattle.std.specs.Prelude.{ℕ, suc, List, [], ◌∷◌, ◌++◌, take, replicate}
use Rattle.receiver.specs.declared.Receiver.{Receiver}
use Rattle.receiver.specs.declared.Receiver.TheVariants.{Waiting}
use Rattle.receiver.specs.Step.{Kind, soi, cr, other, kind, step}
use Rattle.texts.specs.Block.{Block, printed, block_of}

-- the offset of the last SOI, after a byte of this kind at this offset; it opened the stretch
abbrev pub last_soi : Kind → ℕ → ℕ → ℕ
last_soi soi offset last = offset
last_soi cr offset last = last
last_soi other offset last = last

-- the blocks of a stream, from a receiver on; last is the offset of the SOI that opened its stretch, and offset that of the next byte
unfoldable pub blocks_from : Receiver → List ℕ → ℕ → ℕ → List ℕ → List Block
blocks_from r store last offset [] = []
blocks_from r store last offset (b ∷ bs) =
    let a = step r store b in
    block_of last a.told a.store ++ blocks_from a.next a.store (last_soi (kind b) offset last) (suc offset) bs

-- from a fresh receiver, with a store of 4,110 bytes
unfoldable pub blocks_of : List ℕ → List Block
blocks_of stream = blocks_from Waiting (replicate 4110 0) 0 0 stream

-- the first 1,073,741,824 bytes and no more
unfoldable pub listing_of : List ℕ → List ℕ
listing_of stream = printed (blocks_of (take 1073741824 stream))
