-- The paper's own examples, computed.
use Rattle.std.proofs.Common.{◌≡◌, [], ◌∷◌, ◌++◌, refl}
use Rattle.buffer.specs.Text.{ascii}
use Rattle.hex_chars.specs.Hex.{is_hex, digit_of, char_of, all_hex, bad_place, is_lower, pair_of, byte_of, byte_at, word_at}
use Rattle.frame.specs.Frame.{CR, lchksum, chksum}
use Rattle.frame.specs.Judge.{need, header, lenid, judge}
use Rattle.receiver.specs.Step.{kind, step_by, step}
use Rattle.texts.specs.Text.{decimal_in, decimal, line}
use Rattle.texts.specs.Block.{six_lines, frame_lines, refusal_lines, placed_lines, lines, frames_in, refusals_in, totals, printed}
use Rattle.listing.specs.Stream.{blocks_from, blocks_of, listing_of}

pub example : listing_of (ascii "~2002464F0000FD98" ++ CR ∷ ascii "~12" ++ CR ∷ [])
    ≡ ascii "at=0\nver=20\nadr=02\ncid1=46\ncid2=4F\ninfo=\nat=18\nrefused=3\nframes=1\nrefusals=1\n"
unfolding listing_of blocks_of blocks_from printed lines frame_lines six_lines refusal_lines totals frames_in refusals_in line decimal decimal_in pair_of char_of step step_by kind judge need header lenid chksum lchksum all_hex is_hex byte_at word_at byte_of digit_of
example = refl

-- a letter in lower case
pub lowered : listing_of (ascii "~21024642E00202fd32" ++ CR ∷ []) ≡ ascii "at=0\nrefused=4\nplace=14\nframes=0\nrefusals=1\n"
unfolding listing_of blocks_of blocks_from printed lines placed_lines refusal_lines totals frames_in refusals_in line decimal decimal_in step step_by kind judge need all_hex is_hex bad_place is_lower
lowered = refl

-- only the first bad character decides
pub first-decides : listing_of (ascii "~21024642E00202fG32" ++ CR ∷ ascii "~21024642E00202Gf32" ++ CR ∷ [])
    ≡ ascii "at=0\nrefused=4\nplace=14\nat=20\nrefused=9\nplace=14\nframes=0\nrefusals=2\n"
unfolding listing_of blocks_of blocks_from printed lines placed_lines refusal_lines totals frames_in refusals_in line decimal decimal_in step step_by kind judge need all_hex is_hex bad_place is_lower
first-decides = refl
