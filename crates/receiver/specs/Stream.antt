-- A receiver over a stream of bytes, and the words of what is claimed of it.
use Rattle.std.specs.Prelude.{◌≡◌, List, [], ◌∷◌, ◌++◌, ℕ, suc, ◌<◌, get_or, take}
use Rattle.std.proofs.Math.Seq.{slice}
use Rattle.frame.specs.declared.Header.{Header}
use Rattle.frame.specs.Frame.{SOI, CR, Frames}
use Rattle.frame.specs.Judge.{Told, nothing}
use Rattle.receiver.specs.declared.Receiver.{Receiver}
use Rattle.receiver.specs.declared.Receiver.TheVariants.{Waiting}
use Rattle.receiver.specs.Step.{After, gives, step}

-- after each byte of a stream
unfoldable pub after : Receiver → List ℕ → List ℕ → After
after r store [] = gives r store nothing
after r store (b ∷ bs) = let a = step r store b in after a.next a.store bs

-- what is told at a byte that comes after others, from a fresh receiver
unfoldable pub told_after : List ℕ → List ℕ → ℕ → Told
told_after store bytes b = let a = after Waiting store bytes in (step a.next a.store b).told

-- what is told at place j of a stream
unfoldable pub told_at : List ℕ → List ℕ → ℕ → Told
told_at store stream j = told_after store (take j stream) (get_or stream j 0)

-- what the store holds then
unfoldable pub store_at : List ℕ → List ℕ → ℕ → List ℕ
store_at store stream j = (after Waiting store (take (suc j) stream)).store

-- what is noted along a stream, byte by byte and in order: of how many bytes came, what is told at the last of them, and the store then
unfoldable pub along : {A : Type 0} → (ℕ → Told → List ℕ → List A) → ℕ → Receiver → List ℕ → List ℕ → List A
along note n r store [] = []
along note n r store (b ∷ bs) = let a = step r store b in note (suc n) a.told a.store ++ along note (suc n) a.next a.store bs

-- SOI at i, CR at j, and the characters of a frame between them
pub record Stretch (stream : List ℕ) (i j : ℕ) (h : Header) (lenid : ℕ) : Type 0 where
  pub order : i < j
  pub opens : get_or stream i 0 ≡ SOI
  pub closes : get_or stream j 0 ≡ CR
  pub frame : Frames h lenid (slice (suc i) j stream)
