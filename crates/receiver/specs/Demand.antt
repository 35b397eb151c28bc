-- Demand 3: start a receiver fresh and let nobody else write its store.
use Rattle.std.specs.Prelude.{◌≡◌, ◌⊎◌, ◌↔◌, ◌≢◌, ℕ, suc, ◌-◌, ◌≤◌, ◌<◌, length, get_or, take, drop, set}
use mathlib.Core.List.{List, [], ◌∷◌, ◌++◌, Memᴰ as Among}
use Rattle.std.proofs.Math.Seq.{slice}
use Rattle.frame.specs.declared.Header.{Header}
use Rattle.frame.specs.Frame.{info_at}
use Rattle.frame.specs.Judge.{Told, nothing, frame, refused, refused_at}
use Rattle.receiver.specs.declared.Receiver.TheVariants.{Waiting}
use Rattle.receiver.specs.Stream.{Stretch}
use Rattle.receiver.specs.Calls.{Asked, Can, Caller, Calls, Offered, taken, told}

-- a frame as it is handed out: header, LENID, the INFO characters that stand in the store at that moment, and the place of the last byte taken
pub record Out : Type 0 where
  pub header : Header
  pub lenid : ℕ
  pub info : List ℕ
  pub cr : ℕ

abbrev pub out : ℕ → Told → List ℕ → List Out
out n nothing store = []
out n (frame h lenid) store = record { header = h; lenid = lenid; info = info_at lenid store; cr = n - 1 } ∷ []
out n (refused k) store = []
out n (refused_at k p) store = []

abbrev pub handed : (caller : Caller) → List caller.Call → List Out
handed caller cs = told caller out 0 cs

-- it is the frame of a stretch that is a whole encoding, from the SOI at i to its own CR
pub record Of (stream : List ℕ) (i : ℕ) (o : Out) : Type 0 where
  pub stretch : Stretch stream i o.cr o.header o.lenid
  pub info : o.info ≡ info_at o.lenid (slice (suc i) o.cr stream)

-- each stands behind the one before it, and none before place n
unfoldable pub InOrder : ℕ → List Out → Type 0
InOrder n [] = Unit {0}
InOrder n (o ∷ os) = (n ≤ o.cr) × InOrder (suc o.cr) os

-- no frame is from any part of what stands from place i to place j of a stream: each is of a stretch that ends before it or begins behind it
abbrev pub NoneFrom : List ℕ → ℕ → ℕ → List Out → Type 0
NoneFrom stream i j os = (o : Out) → Among o os → (l : ℕ) × Of stream l o × ((o.cr < i) ⊎ (j < l))

-- for every byte stream, and however it is cut into calls
pub record Demand3 (caller : Caller) (store : List ℕ) : Type 0 where
  -- the frames handed out are exactly the stretches that are whole encodings, each at its own CR
  pub exactly : (stream : List ℕ) (cs : List caller.Call) → Calls caller Waiting store stream cs
      → (o : Out) → Among o (handed caller cs) ↔ ((i : ℕ) × Of (take (taken caller cs) stream) i o)
  -- each once, in order
  pub in_order : (stream : List ℕ) (cs : List caller.Call) → Calls caller Waiting store stream cs → InOrder 0 (handed caller cs)
  -- no byte is held back: as many calls as there are bytes, each given one at least, take all of them
  pub all_taken : (stream : List ℕ) (cs : List caller.Call) → Calls caller Waiting store stream cs
      → Offered caller cs → length stream ≤ length cs → taken caller cs ≡ length stream
  -- and there are such calls: after any of them any other can follow
  pub any_call : (stream : List ℕ) (cs : List caller.Call) → Calls caller Waiting store stream cs
      → (a : Asked) → Can a (drop (taken caller cs) stream)
      → (c : caller.Call) × (caller.asked c ≡ a) × Calls caller Waiting store stream (cs ++ c ∷ [])
  -- if one character between the tilde and the CR of such a stretch becomes any other byte, and INFO has at most 936 characters, no frame is handed out from any part of that stretch
  pub one_changed : (stream : List ℕ) (i j : ℕ) (h : Header) (lenid : ℕ) → Stretch stream i j h lenid → lenid ≤ 936
      → (k b : ℕ) → i < k → k < j → b ≢ get_or stream k 0
      → (cs : List caller.Call) → Calls caller Waiting store (set stream k b) cs → NoneFrom (set stream k b) i j (handed caller cs)
