-- Nobody has to believe this file: it proves what a part owes, that every part of a record that keeps the rule can be written.
use Rattle.std.specs.Prelude.{◌≡◌, Bool, true, false, ◌&&◌, refl}
use Rattle.std.proofs.lemmas.Bool.{false≢true}
use Rattle.record.specs.declared.Module.{Module}
use Rattle.record.specs.Analog.{analog}
use Rattle.record.specs.Alarm.{alarm}
use Rattle.record.specs.Limits.{limits}
use Rattle.record.specs.Parameters.{parameters}
use Rattle.record.specs.Texts.{serial, version}
use Rattle.table.specs.Rule.{encodable}

-- both sides of a true `&&`
pub both_true : (a b : Bool) → (a && b) ≡ true → (a ≡ true) × (b ≡ true)
both_true true b e = (refl, e)
both_true false b e = absurd (false≢true e)

-- ---- the six parts of a record, in the order of the rule

module _ (m : Module) (e : encodable m ≡ true) where
  first_two : (analog.ok m.analog && alarm.ok m.alarm) ≡ true
  unfolding encodable
  first_two = (both_true _ _ e).0

  last_four : (limits.ok m.limits && (serial.ok m.serial && (version.ok m.version && parameters.ok m.parameters))) ≡ true
  unfolding encodable
  last_four = (both_true _ _ e).1

  last_three : (serial.ok m.serial && (version.ok m.version && parameters.ok m.parameters)) ≡ true
  last_three = (both_true _ _ last_four).1

  last_two : (version.ok m.version && parameters.ok m.parameters) ≡ true
  last_two = (both_true _ _ last_three).1

  pub writable_analog : analog.ok m.analog ≡ true
  writable_analog = (both_true _ _ first_two).0

  pub writable_alarm : alarm.ok m.alarm ≡ true
  writable_alarm = (both_true _ _ first_two).1

  pub writable_limits : limits.ok m.limits ≡ true
  writable_limits = (both_true _ _ last_four).0

  pub writable_serial : serial.ok m.serial ≡ true
  writable_serial = (both_true _ _ last_three).0

  pub writable_version : version.ok m.version ≡ true
  writable_version = (both_true _ _ last_two).0

  pub writable_parameters : parameters.ok m.parameters ≡ true
  writable_parameters = (both_true _ _ last_two).1
