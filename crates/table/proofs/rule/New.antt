-- A new record keeps the rule where its ADR does: every other value is known, and can be encoded.
use Rattle.std.proofs.Common.{◌≡◌, refl, subst, sym, true, T, ltb, [], ◌∷◌, ℕ, zero, suc, ◌/◌, arith}
use Rattle.std.proofs.lemmas.Bool.{lt-ltb, eq-eqb}
use Rattle.record.specs.Address.{is_address}
use Rattle.record.specs.Analog.{measured, analog}
use Rattle.record.specs.Capacities.{capacities}
use Rattle.record.specs.Alarm.{is_alarm_code, codes, singles, alarm}
use Rattle.record.specs.Limits.{limits}
use Rattle.record.specs.Parameters.{parameters}
use Rattle.record.specs.Texts.{serial, version}
use Rattle.record.specs.Nothing.{no_parameters}
use Rattle.table.specs.Table.{new_module}
use Rattle.table.specs.Rule.{encodable, fine, rising, rule}

pub new-fine : (adr : ℕ) → is_address adr ≡ true → fine (new_module adr) ≡ true
unfolding fine encodable analog measured capacities alarm codes singles is_alarm_code limits serial version parameters
new-fine adr e = rw e

-- its limits are 0 until 47H is read
pub new-parameters : (adr : ℕ) → (new_module adr).parameters ≡ no_parameters
new-parameters adr = refl

-- an address is not 0
not-zero : (adr : ℕ) → is_address adr ≡ true → ltb 0 adr ≡ true
unfolding is_address
not-zero zero e = absurd (subst T (sym e) tt)
not-zero (suc adr) e = lt-ltb 0 (suc adr) (omega arith)

-- so by itself it is a table
pub new-rule : (adr : ℕ) → is_address adr ≡ true → rule (new_module adr ∷ []) ≡ true
unfolding rule rising
new-rule adr e = rw (new-fine adr e, not-zero adr e, eq-eqb (adr / 16) (adr / 16) refl)
