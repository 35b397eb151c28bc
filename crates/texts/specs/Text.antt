-- The listing's texts: the keys, a number in decimal, and a line.
use Rattle.std.specs.Prelude.{if◌then◌else◌, List, [], ◌∷◌, ◌++◌, ℕ, zero, suc, ◌+◌, ◌-◌, ◌*◌, ◌/◌, ◌%◌, nat_lt}
use Prim.Native.Char.{code}
use Rattle.buffer.specs.Text.{ascii}

-- ---- the keys

abbrev pub AT : List ℕ
AT = ascii "at="

abbrev pub VER : List ℕ
VER = ascii "ver="

abbrev pub ADR : List ℕ
ADR = ascii "adr="

abbrev pub CID1 : List ℕ
CID1 = ascii "cid1="

abbrev pub CID2 : List ℕ
CID2 = ascii "cid2="

abbrev pub INFO : List ℕ
INFO = ascii "info="

abbrev pub REFUSED : List ℕ
REFUSED = ascii "refused="

abbrev pub PLACE : List ℕ
PLACE = ascii "place="

abbrev pub FRAMES : List ℕ
FRAMES = ascii "frames="

abbrev pub REFUSALS : List ℕ
REFUSALS = ascii "refusals="

-- ---- numbers

abbrev pub digit : ℕ → ℕ
digit d = code "0" + d

-- in decimal, with no zero in front: a digit, or what n / 10 is in decimal and then the digit n % 10; most is enough digits
unfoldable pub decimal_in : ℕ → ℕ → List ℕ
decimal_in zero n = []
decimal_in (suc most) n = if nat_lt n 10 then digit n ∷ [] else (decimal_in most (n / 10) ++ digit (n % 10) ∷ [])

unfoldable pub decimal : ℕ → List ℕ
decimal n = decimal_in (suc n) n

-- and back: the number that digits say, behind n
unfoldable pub value_from : ℕ → List ℕ → ℕ
value_from n [] = n
value_from n (c ∷ cs) = value_from (n * 10 + (c - code "0")) cs

unfoldable pub value : List ℕ → ℕ
value cs = value_from 0 cs

-- the last k digits of n
unfoldable pub digits : ℕ → ℕ → List ℕ
digits zero n = []
digits (suc k) n = digits k (n / 10) ++ digit (n % 10) ∷ []

-- ---- lines

abbrev pub LF : ℕ
LF = 0x0A

-- a key, what it says, and one LF
unfoldable pub line : List ℕ → List ℕ → List ℕ
line key said = key ++ said ++ (LF ∷ [])
