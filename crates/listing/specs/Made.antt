-- Calls of `list` as a program makes them, one after the other over a stream: each with any answer that its contract allows.
use Rattle.std.specs.Prelude.{◌≡◌, ℕ, ◌≤◌, List, [], ◌∷◌, ◌++◌, length, take, drop}
use Rattle.buffer.specs.Writing.{Left, leaves, paper}
use Rattle.texts.specs.Block.{Block, printed}
use Rattle.listing.specs.declared.Listing.{Listing}
use Rattle.listing.specs.declared.Listed.{Listed}
use Rattle.listing.specs.Piece.{fresh, left, Call, Lists, closing}
use Rattle.listing.specs.Calls.{Given, text}
use Rattle.listing.specs.Stretches.{Tells}

-- what a caller has: calls, what one leaves, and when it keeps its function's contract, from a listing and a store on over the next bytes of a stream
pub record Caller : Type 1 where
  pub Made : Type 0
  pub given : Made → Given
  pub leaves : Made → Call
  pub Keeps : Listing → List ℕ → List ℕ → Made → Type 0

module _ (caller : Caller) where
  -- each call has the listing and the store that the one before left, and begins behind the bytes that were taken
  unfoldable pub Makes : Listing → List ℕ → List ℕ → List caller.Made → Type 0
  Makes l store stream [] = Unit {0}
  Makes l store stream (m ∷ ms) = let a = caller.leaves m in caller.Keeps l store stream m × Makes a.next a.store (drop a.taken stream) ms

  -- the listing after them
  unfoldable pub ends : Listing → List caller.Made → Listing
  ends l [] = l
  ends l (m ∷ ms) = ends (caller.leaves m).next ms

  -- the bytes that they did not take
  unfoldable pub rest : List ℕ → List caller.Made → List ℕ
  rest stream [] = stream
  rest stream (m ∷ ms) = rest (drop (caller.leaves m).taken stream) ms

  -- their texts, one after the other
  unfoldable pub texts : List caller.Made → List ℕ
  texts [] = []
  texts (m ∷ ms) = text (caller.leaves m).left ++ texts ms

  -- where no byte is left to take, their texts and then the totals are the blocks of the stream's first 1,073,741,824 bytes, with totals that count them
  abbrev pub ListsStream : Type 0
  ListsStream =
      (stream store : List ℕ) (ms : List caller.Made) (out : List ℕ) (closed : Left) → 4110 ≤ length store → 38 ≤ length out
      → Makes fresh store stream ms → take (left (ends fresh ms)) (rest stream ms) ≡ [] → closed ≡ closing (ends fresh ms) out
      → (blocks : List Block) × Tells (take 1073741824 stream) blocks × (texts ms ++ text closed ≡ printed blocks)

-- a call of this crate: what it was given, its answer, and the store and the buffer then
pub record Made : Type 0 where
  pub given : Given
  pub answer : Listed
  pub store : List ℕ
  pub out : List ℕ

abbrev pub here : Caller
here = record {
  Made = Made;
  given = λ m. m.given;
  leaves = λ m. record { next = m.answer.next; store = m.store; taken = m.answer.taken; left = leaves (paper m.answer.written) m.out };
  Keeps = λ l store stream m. Lists l store (take m.given.most stream) m.given.out m.answer m.store m.out;
}
