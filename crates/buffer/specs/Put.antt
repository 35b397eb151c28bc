-- A text put into a lent buffer: the one pair of contracts, Room and Put, of everything that writes.
use Rattle.std.specs.Prelude.{◌≡◌, List, ◌++◌, ℕ, ◌+◌, ◌≤◌, length, take, drop}

-- the buffer with the text in it from place at on; what stands before and after it stays
unfoldable pub puts : List ℕ → ℕ → List ℕ → List ℕ
puts out at text = take at out ++ text ++ drop (at + length text) out

-- there is room for the text at place at
pub record Room (out : List ℕ) (at : ℕ) (text : List ℕ) : Type 0 where
  pub fits : at + length text ≤ length out

-- the text was put at place at: out' is the buffer then, and next the place after the text
pub record Put (out : List ℕ) (at : ℕ) (text out' : List ℕ) (next : ℕ) : Type 0 where
  pub end : next ≡ at + length text
  pub is : out' ≡ puts out at text
