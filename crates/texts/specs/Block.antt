-- What the listing prints: blocks, each a frame's six lines or a refusal's two, or three where it has a place, and the two totals that close it.
use Rattle.std.specs.Prelude.{List, [], ◌∷◌, ◌++◌, ℕ, suc}
use Rattle.hex_chars.specs.Hex.{pair_of}
use Rattle.frame.specs.declared.Header.{Header}
use Rattle.frame.specs.Frame.{info_at}
use Rattle.frame.specs.Judge.{Told, nothing, frame, refused, refused_at}
use Rattle.texts.specs.declared.Characters.{Characters}
use Rattle.texts.specs.Text.{AT, VER, ADR, CID1, CID2, INFO, REFUSED, PLACE, FRAMES, REFUSALS, decimal, line}

-- a frame: the offset of its SOI, its four bytes, and the characters of INFO; or a refusal: the offset of the SOI that opened the stretch, and the number, and a character's place where it has one
pub data Block : Type 0 where
  frame_block : ℕ → Header → List ℕ → Block
  refusal_block : ℕ → ℕ → Block
  placed_block : ℕ → ℕ → ℕ → Block

-- `at`, `refused` and `place` are decimal, the others are hex; the keys stand in this order
unfoldable pub six_lines : ℕ → List ℕ → List ℕ → List ℕ → List ℕ → List ℕ → List ℕ
six_lines at ver adr cid1 cid2 info =
    line AT (decimal at) ++ line VER ver ++ line ADR adr ++ line CID1 cid1 ++ line CID2 cid2 ++ line INFO info

-- the same of characters that are lent
abbrev pub said_lines : ℕ → Characters → List ℕ
said_lines at c = six_lines at c.ver.now c.adr.now c.cid1.now c.cid2.now c.info.now

unfoldable pub frame_lines : ℕ → Header → List ℕ → List ℕ
frame_lines at h info = six_lines at (pair_of h.ver) (pair_of h.adr) (pair_of h.cid1) (pair_of h.cid2) info

unfoldable pub refusal_lines : ℕ → ℕ → List ℕ
refusal_lines at number = line AT (decimal at) ++ line REFUSED (decimal number)

unfoldable pub placed_lines : ℕ → ℕ → ℕ → List ℕ
placed_lines at number place = refusal_lines at number ++ line PLACE (decimal place)

abbrev pub lines_of : Block → List ℕ
lines_of (frame_block at h info) = frame_lines at h info
lines_of (refusal_block at number) = refusal_lines at number
lines_of (placed_block at number place) = placed_lines at number place

-- blocks, one after the other
unfoldable pub lines : List Block → List ℕ
lines [] = []
lines (b ∷ bs) = lines_of b ++ lines bs

-- how many of the blocks are frames, and how many are refusals
unfoldable pub frames_in : List Block → ℕ
frames_in [] = 0
frames_in (frame_block at h info ∷ bs) = suc (frames_in bs)
frames_in (refusal_block at number ∷ bs) = frames_in bs
frames_in (placed_block at number place ∷ bs) = frames_in bs

unfoldable pub refusals_in : List Block → ℕ
refusals_in [] = 0
refusals_in (frame_block at h info ∷ bs) = refusals_in bs
refusals_in (refusal_block at number ∷ bs) = suc (refusals_in bs)
refusals_in (placed_block at number place ∷ bs) = suc (refusals_in bs)

unfoldable pub totals : ℕ → ℕ → List ℕ
totals frames refusals = line FRAMES (decimal frames) ++ line REFUSALS (decimal refusals)

-- a whole listing: the blocks, and the two totals, which count them
unfoldable pub printed : List Block → List ℕ
printed bs = lines bs ++ totals (frames_in bs) (refusals_in bs)

-- the block of what is told at a byte, where there is one; INFO stands in the store
abbrev pub block_of : ℕ → Told → List ℕ → List Block
block_of at nothing store = []
block_of at (frame h lenid) store = frame_block at h (info_at lenid store) ∷ []
block_of at (refused number) store = refusal_block at number ∷ []
block_of at (refused_at number place) store = placed_block at number place ∷ []
