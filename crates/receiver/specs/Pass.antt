-- Nobody has to believe this page: words of proofs and of the contracts of private functions, for bytes between events that are passed many at a time.
use Rattle.std.specs.Prelude.{◌≡◌, Bool, cond, ◌||◌, List, ℕ, ◌+◌, ◌-◌, ◌≤◌, length, take, drop, eqb, ltb, Option, Some, None}
use Rattle.refusal.specs.declared.Refusal.{Refusal}
use Rattle.refusal.specs.declared.Refusal.TheVariants.{BufferTooShort, ReceiverBeyondStore}
use Rattle.buffer.specs.Put.{Put}
use Rattle.std.specs.List.{position_or_len}
use Rattle.frame.specs.Frame.{SOI, CR}
use Rattle.receiver.specs.declared.Receiver.{Receiver}
use Rattle.receiver.specs.declared.Receiver.TheVariants.{Waiting, Open}
use Rattle.receiver.specs.Step.{beyond}
use Rattle.receiver.specs.Run.{count_of, later, stepping}

abbrev pub is_soi : ℕ → Bool
is_soi x = eqb x SOI

abbrev pub is_end : ℕ → Bool
is_end x = eqb x SOI || eqb x CR

-- what is left of a list behind bytes at its start of which none meets the test
abbrev pub Behind : (ℕ → Bool) → List ℕ → List ℕ → Type 0
Behind test s rest = (length rest ≤ length s) × (position_or_len test s ≡ length s - length rest + position_or_len test rest)

-- a store that is long enough, and a count that it can hold: neither 32 nor 35
abbrev pub Fits : Receiver → List ℕ → Type 0
Fits r store = (4110 ≤ length store) × (count_of r ≤ 4110)

-- what a call is refused with, if at all: 32, then 35
abbrev pub call_refusal : Receiver → List ℕ → Option Refusal
call_refusal r store = cond (ltb (length store) 4110) (Some BufferTooShort) (cond (beyond r) (Some ReceiverBeyondStore) None)

-- the receiver after k bytes that it only waits over, or only stores
abbrev pub moved : Receiver → ℕ → Receiver
moved Waiting k = Waiting
moved (Open n) k = Open (n + k)

-- k bytes at the start of s were stored from place at on, none of them SOI or CR
pub record Stored (store : List ℕ) (at : ℕ) (s : List ℕ) (k : ℕ) (store' : List ℕ) : Type 0 where
  pub few : k ≤ position_or_len is_end s
  pub put : Put store at (take k s) store' (at + k)

-- k bytes at the start of a piece were passed, and stepping goes on from there as from the start
pub record Passed (r : Receiver) (store piece : List ℕ) (k : ℕ) (store' : List ℕ) : Type 0 where
  pub few : k ≤ length piece
  pub count : count_of (moved r k) ≤ 4110
  pub same : stepping r store piece ≡ later k (stepping (moved r k) store' (drop k piece))
