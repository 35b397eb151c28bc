-- The frame: SOI, VER, ADR, CID1, CID2, LENGTH, INFO, CHKSUM, EOI, with two hex characters for each byte between SOI and EOI.
use Rattle.std.specs.Prelude.{◌≡◌, ℕ, ◌+◌, ◌-◌, ◌*◌, ◌/◌, ◌%◌, ◌≤◌, List, [], ◌∷◌, ◌++◌, length, take, drop, sum}
use Rattle.hex_chars.specs.Hex.{hexes, word, Bytes}
use Rattle.frame.specs.declared.Header.{Header}

-- SOI is 7EH (tilde), EOI is 0DH (CR)
abbrev pub SOI : ℕ
SOI = 0x7E

abbrev pub CR : ℕ
CR = 0x0D

-- LCHKSUM: the three digits of LENID are summed modulo 16 and taken from 16; remainder 0 gives 0
unfoldable pub lchksum : ℕ → ℕ
lchksum lenid = (16 - (lenid / 256 + lenid / 16 % 16 + lenid % 16) % 16) % 16

-- LENGTH: LENID in the low 12 bits, LCHKSUM in the top 4
unfoldable pub length_of : ℕ → ℕ
length_of lenid = lchksum lenid * 4096 + lenid

-- CHKSUM: the values of all characters are added modulo 65,536, then taken from 65,536; remainder 0 gives 0
unfoldable pub chksum : List ℕ → ℕ
chksum cs = (65536 - sum cs % 65536) % 65536

-- the bytes from VER to the end of INFO, with this word for LENGTH
unfoldable pub packed : Header → ℕ → List ℕ → List ℕ
packed h l info = h.ver ∷ h.adr ∷ h.cid1 ∷ h.cid2 ∷ word l ++ info

-- characters, and their CHKSUM behind them
unfoldable pub seal : List ℕ → List ℕ
seal cs = cs ++ hexes (word (chksum cs))

-- what stands between SOI and CR; LENID counts the characters of INFO
unfoldable pub chars : Header → List ℕ → List ℕ
chars h info = seal (hexes (packed h (length_of (2 * length info)) info))

-- the whole frame
unfoldable pub encode : Header → List ℕ → List ℕ
encode h info = SOI ∷ (chars h info ++ CR ∷ [])

-- the characters of INFO stand at places 12 to 11 + LENID
abbrev pub info_at : ℕ → List ℕ → List ℕ
info_at lenid c = take lenid (drop 12 c)

-- the characters between SOI and CR of a frame of n bytes at the front of a buffer
abbrev pub between : ℕ → List ℕ → List ℕ
between n out = take (n - 2) (drop 1 out)

-- c stands between SOI and CR of the frame with this header and INFO, of 0 to 2,047 bytes
pub record Encodes (h : Header) (info c : List ℕ) : Type 0 where
  pub head : Bytes (h.ver ∷ h.adr ∷ h.cid1 ∷ h.cid2 ∷ [])
  pub body : Bytes info
  pub short : length info ≤ 2047
  pub is : c ≡ chars h info

-- c stands between SOI and CR of some frame: a whole encoding
abbrev pub Whole : List ℕ → Type 0
Whole c = (h : Header) × (info : List ℕ) × Encodes h info c

-- the same, of a frame with this header and LENID
abbrev pub Frames : Header → ℕ → List ℕ → Type 0
Frames h n c = (info : List ℕ) × Encodes h info c × (n ≡ 2 * length info)
