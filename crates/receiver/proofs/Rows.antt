-- The rows of the step's table, as the code meets them.
use Rattle.std.proofs.Common.{◌≡◌, refl, ◌≢◌, false, List, ℕ, ◌+◌, ◌≤◌, arith, length, take, set, le-ltb, ltb-false}
use Rattle.frame.specs.Frame.{SOI, CR}
use Rattle.frame.specs.Judge.{Told, nothing, refused, judge}
use Rattle.receiver.specs.declared.Receiver.{Receiver}
use Rattle.receiver.specs.declared.Receiver.TheVariants.{Waiting, Open}
use Rattle.receiver.specs.Step.{soi, cr, other, kind, gives, step_by, beyond, step}
use Rattle.receiver.specs.Run.{count_of}

pub is-soi : (b : ℕ) → b ≡ SOI → kind b ≡ soi
unfolding kind
is-soi b e = grind arith

pub is-cr : (b : ℕ) → b ≡ CR → kind b ≡ cr
unfolding kind
is-cr b e = grind arith

pub is-other : (b : ℕ) → b ≢ SOI → b ≢ CR → kind b ≡ other
unfolding kind
is-other b e f = grind arith

-- ---- the call refusals, and what is behind them

-- a count within the store is not beyond it
pub within : (r : Receiver) → count_of r ≤ 4110 → beyond r ≡ false
within Waiting h = refl
within (Open n) h = le-ltb 4110 n h

pub not_beyond : (r : Receiver) → beyond r ≡ false → count_of r ≤ 4110
not_beyond Waiting e = omega arith
not_beyond (Open n) e = ltb-false 4110 n e

pub step-within : (r : Receiver) (store : List ℕ) (b : ℕ) → 4110 ≤ length store → count_of r ≤ 4110 → step r store b ≡ step_by (kind b) r store b
unfolding step
step-within r store b h k = rw (le-ltb (length store) 4110 h, within r k)

-- ---- rows of the step's table

module _ (store : List ℕ) (b : ℕ) (room : 4110 ≤ length store) where
  pub row-idle : b ≢ SOI → gives Waiting store nothing ≡ step Waiting store b
  unfolding step step_by kind
  row-idle e = grind arith

  module _ (n : ℕ) (fits : n ≤ 4110) where
    pub row-again : b ≡ SOI → gives (Open 0) store (refused 2) ≡ step (Open n) store b
    unfolding step step_by kind
    row-again e = grind arith

    pub row-judged : (t : Told) → t ≡ judge (take n store) → b ≡ CR → gives Waiting store t ≡ step (Open n) store b
    unfolding step step_by kind
    row-judged t q e = grind arith

    pub row_more : b ≢ SOI → b ≢ CR → n ≢ 4110 → gives (Open (n + 1)) (set store n b) nothing ≡ step (Open n) store b
    unfolding step step_by kind
    row_more e f g = grind arith
