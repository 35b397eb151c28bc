-- What a stretch says to the stand-in and the reply reader.
use Rattle.std.specs.Prelude.{cond, List, ℕ, length, ltb}
use Rattle.hex_chars.specs.Hex.{byte_at}
use Rattle.frame.specs.declared.Header.{Header}
use Rattle.frame.specs.Judge.{Told, nothing, frame, refused, refused_at, paper, header, lenid, judge}
use Rattle.command.specs.declared.Heard.{Heard}

-- the number of a refusal, and 0 for a frame
unfoldable pub number_of : Told → ℕ
number_of nothing = 0
number_of (frame h n) = 0
number_of (refused k) = k
number_of (refused_at k p) = k

-- what is told of a stretch, its four bytes, LENID, and the byte at INFO's first place
pub record Words : Type 0 where
  pub told : Told
  pub header : Header
  pub lenid : ℕ
  pub command : ℕ

abbrev pub zeros : Header
zeros = record { ver = 0; adr = 0; cid1 = 0; cid2 = 0 }

-- the places are read wherever they are there: the stand-in needs ADR of a stretch that is refused by 5 to 8 too
unfoldable pub words : List ℕ → Words
words c =
    cond (ltb (length c) 16)
    (record { told = judge c; header = zeros; lenid = 0; command = 0 })
    (record { told = judge c; header = header c; lenid = lenid c; command = byte_at c 12 })

abbrev pub words_of : Heard → Words
words_of h = record { told = paper h.judged; header = h.header; lenid = h.lenid; command = h.command }
