-- A member that is on is among the records; it has its ADR, and with the table it keeps the rule.
use Rattle.std.proofs.Common.{◌≡◌, true, List, [], ◌∷◌, ℕ, suc, ◌<◌, arith, length, get_or, unwrap_or, eqb, eqb→eq, lt-ltb}
use Rattle.std.proofs.Math.ListN.{get_or-eq_default}
use Rattle.buffer.proofs.Lists.{by_cond}
use Rattle.record.specs.declared.Module.{Module}
use Rattle.table.specs.Table.{is_on, blank, place_of, place_found, member_at}
use Rattle.table.specs.Rule.{rule}
use Rattle.table.proofs.rule.Fine.{Fine, record-fine}

place-adr : (adr : ℕ) (ms : List Module) (d : Module) → place_of adr ms < length ms → (get_or ms (place_of adr ms) d).adr ≡ adr
unfolding place_of
place-adr adr [] d = λ h. absurd (omega arith)
place-adr adr (m ∷ ms) d =
    by_cond (λ (k : ℕ). k < suc (length ms) → (get_or (m ∷ ms) k d).adr ≡ adr) (eqb m.adr adr)
    (λ t h. eqb→eq m.adr adr t) (λ t h. place-adr adr ms d (omega arith))

module _ (adr : ℕ) (ms : List Module) (on : is_on (member_at adr ms) ≡ true) where
  pub member-in : place_of adr ms < length ms
  unfolding member_at
  member-in = grind (arith, get_or-eq_default, on)

  -- so the place that is found is its own
  pub place-found : (none : ℕ) → unwrap_or (place_found adr ms) none ≡ place_of adr ms
  place-found none = rw (lt-ltb (place_of adr ms) (length ms) member-in)

  pub member-adr : (member_at adr ms).adr ≡ adr
  unfolding member_at
  member-adr = place-adr adr ms blank member-in

  pub member-fine : rule ms ≡ true → Fine (member_at adr ms)
  unfolding member_at
  member-fine e = record-fine ms e (place_of adr ms) member-in blank

pub ruleset places = (place-found)
