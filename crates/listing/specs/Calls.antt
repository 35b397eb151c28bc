-- Calls of `list`, one after the other, each over what the ones before left of a stream.
use Rattle.std.specs.Prelude.{ℕ, List, [], ◌∷◌, ◌++◌, take, drop}
use Rattle.buffer.specs.Writing.{Outcome, wrote, refused, Left}
use Rattle.listing.specs.declared.Listing.{Listing}
use Rattle.listing.specs.Piece.{list}

-- what a call is given: the next bytes, so many at most, and a buffer
pub record Given : Type 0 where
  pub most : ℕ
  pub out : List ℕ

-- the text that a writer left at the front of its buffer
abbrev pub text_by : Outcome → List ℕ → List ℕ
text_by (wrote n) out = take n out
text_by (refused k) out = []

abbrev pub text : Left → List ℕ
text l = text_by l.outcome l.out

-- what calls leave: the listing and the store then, the bytes that were not taken, and the texts one after the other
pub record Called : Type 0 where
  pub next : Listing
  pub store : List ℕ
  pub rest : List ℕ
  pub said : List ℕ

unfoldable pub calls : Listing → List ℕ → List ℕ → List Given → Called
calls l store stream [] = record { next = l; store = store; rest = stream; said = [] }
calls l store stream (g ∷ gs) =
    let a = list l store (take g.most stream) g.out in
    let z = calls a.next a.store (drop a.taken stream) gs in
    record { next = z.next; store = z.store; rest = z.rest; said = text a.left ++ z.said }
