-- Two results that a contract over numbers allows are equal: each part is given by an equation.
use Rattle.std.proofs.Common.{◌≡◌, sym, ◌∙◌, List, ℕ}
use Rattle.buffer.specs.Writing.{Left}
use Rattle.listing.specs.Piece.{Call}
use Rattle.flat.specs.declared.FlatWritten.{FlatWritten}
use Rattle.flat.specs.declared.FlatListed.{FlatListed}
use Rattle.flat.specs.declared.FlatReceiver.{FlatReceiver}
use Rattle.flat.specs.declared.FlatStepped.{FlatStepped}
use Rattle.flat.specs.declared.FlatRan.{FlatRan}
use Rattle.flat.specs.Flat.{FlatWrites}
use Rattle.flat.specs.Listing.{FlatLists}
use Rattle.flat.specs.Calls.{FlatSteps, FlatRuns}

-- every writer: its answer, and the buffer
pub flat-writes-one : (left : Left) (a b : FlatWritten) (out out' : List ℕ) → FlatWrites left a out → FlatWrites left b out' → (a ≡ b) × (out ≡ out')
flat-writes-one left a b out out' p q = (p.0 ∙ sym q.0, p.1 ∙ sym q.1)

-- a listing's call: its answer, the store and the buffer
pub flat-lists-one : (call : Call) (a b : FlatListed) (store store' out out' : List ℕ) → FlatLists call a store out → FlatLists call b store' out'
    → (a ≡ b) × ((store ≡ store') × (out ≡ out'))
flat-lists-one call a b store store' out out' p q = (p.0 ∙ sym q.0, (p.1.0 ∙ sym q.1.0, p.1.1 ∙ sym q.1.1))

-- a step and a run: the answer, and the store
pub flat-steps-one : (r : FlatReceiver) (store : List ℕ) (byte : ℕ) (a b : FlatStepped) (store' store'' : List ℕ) → FlatSteps r store byte a store' → FlatSteps r store byte b store''
    → (a ≡ b) × (store' ≡ store'')
flat-steps-one r store byte a b store' store'' p q = (p.0 ∙ sym q.0, p.1 ∙ sym q.1)

pub flat-runs-one : (r : FlatReceiver) (store piece : List ℕ) (a b : FlatRan) (store' store'' : List ℕ) → FlatRuns r store piece a store' → FlatRuns r store piece b store''
    → (a ≡ b) × (store' ≡ store'')
flat-runs-one r store piece a b store' store'' p q = (p.0 ∙ sym q.0, p.1 ∙ sym q.1)
