-- What damage does to a stretch that is a whole encoding: a character changed, lost, sent twice in a row, or exchanged with its neighbour; the tilde or the CR twice; the end cut off.
use Rattle.std.specs.Prelude.{◌≡◌, ◌⊎◌, ◌≢◌, true, false, cond, ℕ, suc, ◌+◌, ◌-◌, ◌≤◌, ◌<◌, get_or, take, drop, set, leb, ltb, eqb}
use mathlib.Core.List.{List, [], ◌∷◌, ◌++◌, Memᴰ as Among}
use Rattle.std.proofs.Math.Seq.{slice}
use Rattle.hex_chars.specs.Hex.{is_hex}
use Rattle.frame.specs.declared.Header.{Header}
use Rattle.frame.specs.Frame.{SOI, CR, info_at}
use Rattle.frame.specs.Judge.{Told, is_refusal, frame, refused, refused_at, bad_number, header}
use Rattle.receiver.specs.declared.Receiver.TheVariants.{Waiting}
use Rattle.receiver.specs.Run.{is_nothing}
use Rattle.receiver.specs.Stream.{Stretch}
use Rattle.receiver.specs.Calls.{Caller, Calls, taken, told}
use Rattle.receiver.specs.Demand.{handed, NoneFrom}

-- without the byte at place k
abbrev pub lost : ℕ → List ℕ → List ℕ
lost k stream = take k stream ++ drop (suc k) stream

-- with the byte at place k twice
abbrev pub doubled : ℕ → List ℕ → List ℕ
doubled k stream = take (suc k) stream ++ drop k stream

-- with the bytes at places k and k + 1 exchanged
abbrev pub exchanged : ℕ → List ℕ → List ℕ
exchanged k stream = take k stream ++ get_or stream (suc k) 0 ∷ get_or stream k 0 ∷ drop (suc (suc k)) stream

-- those at k and k + 1 are both among the eight characters of VER, ADR, CID1 and CID2, or both in INFO, of the stretch with its SOI at i: only the sum is over them
abbrev pub Unseen : ℕ → ℕ → ℕ → Type 0
Unseen i lenid k = ((i < k) × (suc k < 9 + i)) ⊎ ((12 + i < k) × (suc k < 13 + i + lenid))

-- ---- exactly one character between the tilde and the CR is lost, or sent twice in a row

-- no frame is handed out from any part of that stretch, which now ends one place before or behind; INFO may have any length
pub record LostOrDoubled (caller : Caller) (store : List ℕ) : Type 0 where
  pub one_lost : (stream : List ℕ) (i j : ℕ) (h : Header) (lenid : ℕ) → Stretch stream i j h lenid
      → (k : ℕ) → i < k → k < j
      → (cs : List caller.Call) → Calls caller Waiting store (lost k stream) cs → NoneFrom (lost k stream) i (j - 1) (handed caller cs)
  pub one_doubled : (stream : List ℕ) (i j : ℕ) (h : Header) (lenid : ℕ) → Stretch stream i j h lenid
      → (k : ℕ) → i < k → k < j
      → (cs : List caller.Call) → Calls caller Waiting store (doubled k stream) cs → NoneFrom (doubled k stream) i (suc j) (handed caller cs)

-- ---- what is told of a damaged stretch

-- what is told at a byte, with its place, if that is one from place a to place b; n bytes were taken then
unfoldable pub inside : ℕ → ℕ → ℕ → Told → List ℕ → List (ℕ × Told)
inside a b n t store = cond (is_nothing t) [] (cond (ltb a n) (cond (leb n (suc b)) ((n - 1, t) ∷ []) []) [])

abbrev pub told_in : ℕ → ℕ → (caller : Caller) → List caller.Call → List (ℕ × Told)
told_in a b caller cs = told caller (inside a b) 0 cs

-- from behind the tilde to the CR, this and nothing else; of a changed character, this first
pub record ToldOf (caller : Caller) (store : List ℕ) : Type 0 where
  -- one character becomes any other byte, and INFO may have any length: what is told first is a refusal
  pub changed_told : (stream : List ℕ) (i j : ℕ) (h : Header) (lenid : ℕ) → Stretch stream i j h lenid
      → (k b : ℕ) → i < k → k < j → b ≢ get_or stream k 0
      → (cs : List caller.Call) → Calls caller Waiting store (set stream k b) cs → j < taken caller cs
      → (p : ℕ) × (t : Told) × (is_refusal t ≡ true) × (es : List (ℕ × Told)) × (told_in (suc i) j caller cs ≡ (p, t) ∷ es)
  -- where that byte isn't hex, and no tilde or CR: one refusal, at the CR, with the place of this character and the number that it calls for
  pub bad_told : (stream : List ℕ) (i j : ℕ) (h : Header) (lenid : ℕ) → Stretch stream i j h lenid
      → (k b : ℕ) → i < k → k < j → is_hex b ≡ false → b ≢ SOI → b ≢ CR
      → (cs : List caller.Call) → Calls caller Waiting store (set stream k b) cs → j < taken caller cs
      → told_in (suc i) j caller cs ≡ (j, refused_at (bad_number b) (k - suc i)) ∷ []
  -- one character is lost: one refusal, at the CR; 3 where 15 are left
  pub lost_told : (stream : List ℕ) (i j : ℕ) (h : Header) (lenid : ℕ) → Stretch stream i j h lenid
      → (k : ℕ) → i < k → k < j
      → (cs : List caller.Call) → Calls caller Waiting store (lost k stream) cs → j - 1 < taken caller cs
      → (n : ℕ) × Among n (cond (eqb lenid 0) (3 ∷ []) (5 ∷ 6 ∷ 7 ∷ [])) × (told_in (suc i) (j - 1) caller cs ≡ (j - 1, refused n) ∷ [])
  -- one is sent twice in a row: one refusal, at the CR
  pub doubled_told : (stream : List ℕ) (i j : ℕ) (h : Header) (lenid : ℕ) → Stretch stream i j h lenid → lenid < 4094
      → (k : ℕ) → i < k → k < j
      → (cs : List caller.Call) → Calls caller Waiting store (doubled k stream) cs → suc j < taken caller cs
      → (n : ℕ) × Among n (5 ∷ 6 ∷ 7 ∷ []) × (told_in (suc i) (suc j) caller cs ≡ (suc j, refused n) ∷ [])
  -- in the longest frame that is a 4,111th character: refusal 1 at the last, and nothing at the CR
  pub longest_doubled : (stream : List ℕ) (i j : ℕ) (h : Header) → Stretch stream i j h 4094
      → (k : ℕ) → i < k → k < j
      → (cs : List caller.Call) → Calls caller Waiting store (doubled k stream) cs → suc j < taken caller cs
      → told_in (suc i) (suc j) caller cs ≡ (j, refused 1) ∷ []
  -- the tilde is sent twice: refusal 2 at the second, then the frame
  pub doubled_soi : (stream : List ℕ) (i j : ℕ) (h : Header) (lenid : ℕ) → Stretch stream i j h lenid
      → (cs : List caller.Call) → Calls caller Waiting store (doubled i stream) cs → suc j < taken caller cs
      → told_in (suc i) (suc j) caller cs ≡ (suc i, refused 2) ∷ (suc j, frame h lenid) ∷ []
  -- the CR is sent twice: the frame at the first, then nothing
  pub doubled_cr : (stream : List ℕ) (i j : ℕ) (h : Header) (lenid : ℕ) → Stretch stream i j h lenid
      → (cs : List caller.Call) → Calls caller Waiting store (doubled j stream) cs → suc j < taken caller cs
      → told_in (suc i) (suc j) caller cs ≡ (j, frame h lenid) ∷ []
  -- what stands from place k on is cut off, the CR at least, and a tilde follows: refusal 2 at it
  pub cut_off : (stream : List ℕ) (i j : ℕ) (h : Header) (lenid : ℕ) → Stretch stream i j h lenid
      → (k : ℕ) → i < k → k ≤ j → (rest : List ℕ)
      → (cs : List caller.Call) → Calls caller Waiting store (take k stream ++ SOI ∷ rest) cs → k < taken caller cs
      → told_in (suc i) k caller cs ≡ (k, refused 2) ∷ []
  -- or a CR follows, where a character stood: one refusal at it, 3 or 7
  pub cut_closed : (stream : List ℕ) (i j : ℕ) (h : Header) (lenid : ℕ) → Stretch stream i j h lenid
      → (k : ℕ) → i < k → k < j → (rest : List ℕ)
      → (cs : List caller.Call) → Calls caller Waiting store (take k stream ++ CR ∷ rest) cs → k < taken caller cs
      → told_in (suc i) k caller cs ≡ (k, refused (cond (ltb (k - suc i) 16) 3 7)) ∷ []
  -- two neighbours that differ are exchanged, and not where only the sum is over them: one refusal, at the CR
  pub exchanged_told : (stream : List ℕ) (i j : ℕ) (h : Header) (lenid : ℕ) → Stretch stream i j h lenid
      → (k : ℕ) → i < k → suc k < j → (Unseen i lenid k → ⊥) → get_or stream k 0 ≢ get_or stream (suc k) 0
      → (cs : List caller.Call) → Calls caller Waiting store (exchanged k stream) cs → j < taken caller cs
      → (n : ℕ) × Among n (5 ∷ 6 ∷ 7 ∷ 8 ∷ []) × (told_in (suc i) j caller cs ≡ (j, refused n) ∷ [])

-- ---- two neighbours exchanged

pub record Exchanged (caller : Caller) (store : List ℕ) : Type 0 where
  -- the sum does not see it: the frame is handed out, with its characters so exchanged
  pub passes : (stream : List ℕ) (i j : ℕ) (h : Header) (lenid : ℕ) → Stretch stream i j h lenid
      → (k : ℕ) → Unseen i lenid k
      → (cs : List caller.Call) → Calls caller Waiting store (exchanged k stream) cs → j < taken caller cs
      → let c = slice (suc i) j (exchanged k stream) in
      Among (record { header = header c; lenid = lenid; info = info_at lenid c; cr = j }) (handed caller cs)
  -- anywhere else two that differ are not taken for each other: no frame is handed out from any part of that stretch
  pub elsewhere : (stream : List ℕ) (i j : ℕ) (h : Header) (lenid : ℕ) → Stretch stream i j h lenid
      → (k : ℕ) → i < k → suc k < j → (Unseen i lenid k → ⊥) → get_or stream k 0 ≢ get_or stream (suc k) 0
      → (cs : List caller.Call) → Calls caller Waiting store (exchanged k stream) cs → NoneFrom (exchanged k stream) i j (handed caller cs)
