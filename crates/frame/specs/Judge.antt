-- The judge of a stretch of characters: 1, 3, 4 or 9, 5 to 8, the first that applies, or the frame. 4 and 9 say the place of a character too.
use Rattle.std.specs.Prelude.{◌≡◌, ℕ, ◌+◌, ◌/◌, ◌%◌, Bool, true, false, cond, ◌||◌, List, length, take, ◌==◌, nat_le, slice_index, Option, Some, None, Result, Ok, Err}
use Rattle.refusal.specs.Number.{number}
use Rattle.hex_chars.specs.Hex.{all_hex, bad_place, is_lower, byte_at, word_at}
use Rattle.frame.specs.declared.Header.{Header}
use Rattle.refusal.specs.declared.Refusal.{Refusal}
use Rattle.frame.specs.declared.Frame.{Frame}
use Rattle.frame.specs.declared.Fault.{Fault}
use Rattle.frame.specs.Frame.{lchksum, chksum}

-- what is told: nothing, a frame with its four bytes and LENID, a refusal with its number, or one with its number and a character's place
pub data Told : Type 0 where
  nothing : Told
  frame : Header → ℕ → Told
  refused : ℕ → Told
  refused_at : ℕ → ℕ → Told

abbrev pub is_refusal : Told → Bool
is_refusal nothing = false
is_refusal (frame h n) = false
is_refusal (refused k) = true
is_refusal (refused_at k p) = true

-- the paper's number and values of a refusal with its place, if it has one, and of a judgement
abbrev pub refusal_told : Refusal → Option ℕ → Told
refusal_told r None = refused (number r)
refusal_told r (Some p) = refused_at (number r) p

abbrev pub fault_told : Fault → Told
fault_told f = refusal_told f.refusal f.place

abbrev pub paper : Result Frame Fault → Told
paper (Ok f) = frame f.header f.lenid
paper (Err f) = fault_told f

-- the refusal with number n, unless the test passes
unfoldable pub need : Bool → ℕ → Told → Told
need true n rest = rest
need false n rest = refused n

-- what a character that isn't hex calls for: 4 where it is `a` to `f`, 9 where it is anything else
abbrev pub bad_number : ℕ → ℕ
bad_number c = cond (is_lower c) 4 9

-- the refusal that the first character that isn't hex calls for, with its place (0 for the first after the tilde), unless all are hex
abbrev pub need_hex : List ℕ → Told → Told
need_hex c rest = cond (all_hex c) rest (refused_at (bad_number (slice_index c (bad_place c))) (bad_place c))

-- these two numbers carry a place, and no others
abbrev pub carries_place : ℕ → Bool
carries_place k = k == 4 || k == 9

unfoldable pub header : List ℕ → Header
header c = record { ver = byte_at c 0; adr = byte_at c 2; cid1 = byte_at c 4; cid2 = byte_at c 6 }

-- LENID, the low 12 bits of LENGTH
unfoldable pub lenid : List ℕ → ℕ
lenid c = word_at c 8 % 4096

unfoldable pub judge : List ℕ → Told
judge c =
    need (nat_le (length c) 4110) 1
    (need (nat_le 16 (length c)) 3
    (need_hex c
    (need (word_at c 8 / 4096 == lchksum (lenid c)) 5
    (need (lenid c % 2 == 0) 6
    (need (length c == 16 + lenid c) 7
    (need (word_at c (12 + lenid c) == chksum (take (12 + lenid c) c)) 8
    (frame (header c) (lenid c))))))))

-- the contract of the judge
abbrev pub Judges : List ℕ → Result Frame Fault → Type 0
Judges c judged = paper judged ≡ judge c
