-- Which character was bad, in a stream: a refusal with a place is told at the CR of a stretch with such a character, and nowhere else.
use Rattle.std.specs.Prelude.{◌≡◌, ◌↔◌, ◌≢◌, List, [], ◌∷◌, ℕ, suc, ◌<◌, get_or}
use Rattle.std.proofs.Math.Seq.{slice}
use Rattle.frame.specs.Frame.{SOI, CR}
use Rattle.frame.specs.Judge.{refused_at}
use Rattle.frame.specs.Place.{Placed}
use Rattle.receiver.specs.declared.Receiver.TheVariants.{Waiting}
use Rattle.receiver.specs.Calls.{Caller, Calls, taken}
use Rattle.receiver.specs.Damage.{told_in}

-- SOI at i, CR at j, neither between them, and characters of which the one at p, so at i + 1 + p of the stream, is the first that isn't hex
pub record BadStretch (stream : List ℕ) (i j k p : ℕ) : Type 0 where
  pub order : i < j
  pub opens : get_or stream i 0 ≡ SOI
  pub closes : get_or stream j 0 ≡ CR
  pub between : (m : ℕ) → i < m → m < j → (get_or stream m 0 ≢ SOI) × (get_or stream m 0 ≢ CR)
  pub placed : Placed (slice (suc i) j stream) k p

-- for every byte stream, and however it is cut into calls: what is told at its byte j
abbrev pub PlacesTold : Caller → List ℕ → Type 0
PlacesTold caller store =
    (stream : List ℕ) (cs : List caller.Call) → Calls caller Waiting store stream cs → (j k p : ℕ) → j < taken caller cs
    → (told_in j j caller cs ≡ (j, refused_at k p) ∷ []) ↔ ((i : ℕ) × BadStretch stream i j k p)
