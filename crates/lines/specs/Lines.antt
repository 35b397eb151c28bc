-- The worked lines of PROTOCOL's chapter 12 marked P, among them two of V3.3 that are no frames: each line says something of the definitions, and one list has them all.
use Rattle.std.specs.Prelude.{◌≡◌, List, [], ◌∷◌, ◌++◌, ℕ, ◌*◌, length, drop, ℤ, pos, negsuc}
use Prim.Native.String.{String}
use Rattle.std.specs.Int.{w16}
use Rattle.std.proofs.Common.{to_z}
use Rattle.buffer.specs.Text.{ascii}
use Rattle.hex_chars.specs.Hex.{hexes, word}
use Rattle.frame.specs.declared.Header.{Header}
use Rattle.frame.specs.Frame.{CR, length_of, chksum, encode}
use Rattle.frame.specs.Judge.{frame, refused, refused_at, judge}
use Rattle.receiver.specs.Damage.{lost, doubled, exchanged}
use Rattle.record.specs.Meanings.{tenths_celsius_of, milliamps_of}

pub data Line : Type 0 where
  -- a LENID and its LENGTH
  LENID : ℕ → String → Line
  -- characters and their CHKSUM
  check : String → String → Line
  -- a frame from its tilde on, and its VER, ADR, CID1, CID2 and INFO: accepted, and written so
  sent : String → ℕ → ℕ → ℕ → ℕ → List ℕ → Line
  -- a stretch from its tilde on that is no frame, and the number of its refusal
  broken : String → ℕ → Line
  -- one with a character that isn't hex: the number, and the character's place
  broken_at : String → ℕ → ℕ → Line
  -- a line, a place of it, and the line without the character there, with it twice, with it and the next one exchanged
  one_lost one_doubled two_exchanged : String → ℕ → String → Line
  -- the word of a temperature, and tenths of a degree Celsius
  temperature : ℕ → ℤ → Line
  -- the word of a current, and milliamps
  current : ℕ → ℤ → Line

abbrev pub header_of : ℕ → ℕ → ℕ → ℕ → Header
header_of ver adr cid1 cid2 = record { ver = ver; adr = adr; cid1 = cid1; cid2 = cid2 }

abbrev pub Holds : Line → Type 0
Holds (LENID n text) = hexes (word (length_of n)) ≡ ascii text
Holds (check characters text) = hexes (word (chksum (ascii characters))) ≡ ascii text
Holds (sent text ver adr cid1 cid2 info) =
    (judge (drop 1 (ascii text)) ≡ frame (header_of ver adr cid1 cid2) (2 * length info))
    × (encode (header_of ver adr cid1 cid2) info ≡ ascii text ++ CR ∷ [])
Holds (broken text number) = judge (drop 1 (ascii text)) ≡ refused number
Holds (broken_at text number place) = judge (drop 1 (ascii text)) ≡ refused_at number place
Holds (one_lost text k left) = lost k (ascii text) ≡ ascii left
Holds (one_doubled text k left) = doubled k (ascii text) ≡ ascii left
Holds (two_exchanged text k left) = exchanged k (ascii text) ≡ ascii left
Holds (temperature w tenths) = tenths_celsius_of (to_z w16 w) ≡ tenths
Holds (current w milliamps) = milliamps_of (to_z w16 w) ≡ milliamps

abbrev pub AllHold : List Line → Type 0
AllHold [] = Unit {0}
AllHold (line ∷ lines) = Holds line × AllHold lines

-- INFO of a 42H reply from ADR 02H with one cell, the low byte of its voltage given
abbrev pub one_cell : ℕ → List ℕ
one_cell low = 0x00 ∷ 0x02 ∷ 0x01 ∷ 0x0D ∷ low ∷ 0x01 ∷ 0x0B ∷ 0xAA ∷ 0x00 ∷ 0x00 ∷ 0x0D ∷ 0x45 ∷ 0xFD ∷ 0xE8 ∷ 0x02 ∷ 0xFD ∷ 0xE8 ∷ 0x00 ∷ 0x07 ∷ []

abbrev pub lines : List Line
lines =
    LENID 0 "0000"
    ∷ LENID 18 "D012"
    ∷ LENID 166 "00A6"
    ∷ LENID 4094 "4FFE"
    ∷ check "1203400456ABCEFE" "FC71"
    ∷ check "1203400456ABCDFE" "FC72"
    ∷ broken "~1203400456ABCEFEFC71" 6
    ∷ broken "~1203400456ABCDFEFC72" 6
    ∷ sent "~2002464F0000FD98" 0x20 0x02 0x46 0x4F []
    ∷ sent "~210246000000FDB1" 0x21 0x02 0x46 0x00 []
    ∷ sent "~21024642E00202FD32" 0x21 0x02 0x46 0x42 (0x02 ∷ [])
    ∷ broken_at "~21024642E00202fd32" 4 14
    ∷ broken_at "~21024642E00202Gd32" 9 14
    ∷ sent "~210246040000FDAD" 0x21 0x02 0x46 0x04 []
    ∷ sent "~0202464F0000FD98" 0x02 0x02 0x46 0x4F []
    ∷ sent "~2102460080260002010D45010BAA00000D45FDE802FDE80007F578" 0x21 0x02 0x46 0x00 (one_cell 0x45)
    ∷ sent "~2102460080260002010D54010BAA00000D45FDE802FDE80007F578" 0x21 0x02 0x46 0x00 (one_cell 0x54)
    ∷ one_lost "~2002464F0000FD98" 1 "~002464F0000FD98"
    ∷ one_doubled "~2002464F0000FD98" 8 "~2002464FF0000FD98"
    ∷ two_exchanged "~2002464F0000FD98" 1 "~0202464F0000FD98"
    ∷ two_exchanged "~2102460080260002010D45010BAA00000D45FDE802FDE80007F578" 21 "~2102460080260002010D54010BAA00000D45FDE802FDE80007F578"
    ∷ broken "~002464F0000FD98" 3
    ∷ broken "~2002464FF0000FD98" 5
    ∷ temperature 0x0BAA (pos 255)
    ∷ temperature 0x0A2F (negsuc 123)
    ∷ current 0xFFD8 (negsuc 3999)
    ∷ current 0x8000 (negsuc 3276799)
    ∷ []
