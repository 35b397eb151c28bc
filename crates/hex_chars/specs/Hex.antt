-- Hex characters: `0`-`9` and `A`-`F` only, two for each byte, high digit first. Lower case is not hex here.
use Rattle.std.specs.Prelude.{◌≡◌, ℕ, suc, ◌+◌, ◌-◌, ◌*◌, ◌/◌, ◌%◌, ◌<◌, Bool, true, false, cond, not, ◌&&◌, ◌||◌, List, [], ◌∷◌, length, take, nat_le, nat_lt, slice_index}
use Rattle.std.specs.List.{list_all, position_or_len}
use Prim.Native.Char.{Char, code}

abbrev pub within : Char → Char → ℕ → Bool
within first last c = nat_le (code first) c && nat_le c (code last)

unfoldable pub is_hex : ℕ → Bool
is_hex c = within "0" "9" c || within "A" "F" c

-- the digit that a hex character says: `0` to `9` are 48 to 57, `A` to `F` are 65 to 70; any other is refused before it is read
unfoldable pub digit_of : ℕ → ℕ
digit_of c =
    cond (within "0" "9" c) (c - code "0")
    (cond (within "A" "F" c) (c - code "A" + 10)
    ((c % 16 + c / 64 * 9) % 16))

-- the character of a digit
unfoldable pub char_of : ℕ → ℕ
char_of d = cond (nat_lt d 10) (code "0" + d) (code "A" + (d - 10))

unfoldable pub all_hex : List ℕ → Bool
all_hex cs = list_all is_hex cs

-- the place of the first character that isn't hex: how many stand before it, or all of them
unfoldable pub bad_place : List ℕ → ℕ
bad_place cs = position_or_len (λ c. not (is_hex c)) cs

-- what that place is: inside, all before it is hex, and the character there is not
pub record FirstBad (cs : List ℕ) (p : ℕ) : Type 0 where
  pub inside : p < length cs
  pub before : all_hex (take p cs) ≡ true
  pub bad : is_hex (slice_index cs p) ≡ false

-- a hex letter in lower case
unfoldable pub is_lower : ℕ → Bool
is_lower c = within "a" "f" c

-- a byte's two characters, and those of several bytes
unfoldable pub pair_of : ℕ → List ℕ
pair_of b = char_of (b / 16) ∷ char_of (b % 16) ∷ []

unfoldable pub hexes : List ℕ → List ℕ
hexes [] = []
hexes (b ∷ bs) = char_of (b / 16) ∷ char_of (b % 16) ∷ hexes bs

-- and back: the byte that two characters say, and the bytes that many say, two by two
unfoldable pub byte_of : ℕ → ℕ → ℕ
byte_of high low = digit_of high * 16 + digit_of low

unfoldable pub unhexes : List ℕ → List ℕ
unhexes [] = []
unhexes (high ∷ []) = []
unhexes (high ∷ low ∷ cs) = byte_of high low ∷ unhexes cs

-- the byte and the word whose characters begin at a place; all numbers are high byte first
unfoldable pub byte_at : List ℕ → ℕ → ℕ
byte_at cs i = byte_of (slice_index cs i) (slice_index cs (suc i))

unfoldable pub word_at : List ℕ → ℕ → ℕ
word_at cs i = byte_at cs i * 256 + byte_at cs (suc (suc i))

-- a word as two bytes
abbrev pub word : ℕ → List ℕ
word w = w / 256 ∷ w % 256 ∷ []

-- each number is a byte
abbrev pub Bytes : List ℕ → Type 0
Bytes [] = Unit {0}
Bytes (b ∷ bs) = (b < 256) × Bytes bs
