-- Rising ADRs, a record after the other.
use Rattle.std.proofs.Common.{◌≡◌, ◌∙◌, refl, Bool, true, false, List, ℕ, ◌+◌, ◌<◌, ◌≤◌, length, drop, get_or, T}
use Rattle.std.proofs.lemmas.List.{at_drop_more, at_drop_all}
use Rattle.record.specs.declared.Module.{Module}
use Rattle.table.specs.Rule.{follows, rising}

module _ (m last : ℕ) (ms : List Module) (i : ℕ) where
  pub rising_stops : (d : Module) → i < length ms → follows m last (get_or ms i d) ≡ false → rising m last (drop i ms) ≡ false
  unfolding rising
  rising_stops d h e = at_drop_more (rising m last) ms i d h ∙ rw e

  pub rising_goes : (d : Module) → i < length ms → follows m last (get_or ms i d) ≡ true → rising m last (drop i ms) ≡ rising m (get_or ms i d).adr (drop (i + 1) ms)
  unfolding rising
  rising_goes d h e = at_drop_more (rising m last) ms i d h ∙ rw e

  pub rising_ends : length ms ≤ i → rising m last (drop i ms) ≡ true
  unfolding rising
  rising_ends h = at_drop_all (rising m last) ms i h

pub ruleset rises = (rising_stops, rising_goes, rising_ends)

-- a test that passes is true
pub is_true : (b : Bool) → T b → b ≡ true
is_true true t = refl
is_true false t = absurd t
