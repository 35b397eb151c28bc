-- What a reply replaces: the named fields of the asked record only; with FFH, of each member that is on, in rising ADR.
use Rattle.std.specs.Prelude.{◌≡◌, cond, List, [], ◌∷◌, ℕ, set, drop}
use Rattle.record.specs.declared.Module.{Module}
use Rattle.record.specs.declared.Analog.{Analog}
use Rattle.record.specs.declared.Alarm.{Alarm}
use Rattle.record.specs.declared.Limits.{Limits}
use Rattle.record.specs.declared.Parameters.{Parameters}
use Rattle.table.specs.declared.Table.{Table}
use Rattle.table.specs.Table.{members, is_on, place_of, member_at}

abbrev pub with_analog : Analog → Module → Module
with_analog a m = record { adr = m.adr; on = m.on; link_fault = m.link_fault; analog = a; alarm = m.alarm; limits = m.limits; serial = m.serial; version = m.version; parameters = m.parameters }

abbrev pub with_alarm : Alarm → Module → Module
with_alarm a m = record { adr = m.adr; on = m.on; link_fault = m.link_fault; analog = m.analog; alarm = a; limits = m.limits; serial = m.serial; version = m.version; parameters = m.parameters }

abbrev pub with_limits : Limits → Module → Module
with_limits l m = record { adr = m.adr; on = m.on; link_fault = m.link_fault; analog = m.analog; alarm = m.alarm; limits = l; serial = m.serial; version = m.version; parameters = m.parameters }

abbrev pub with_serial : List ℕ → Module → Module
with_serial s m = record { adr = m.adr; on = m.on; link_fault = m.link_fault; analog = m.analog; alarm = m.alarm; limits = m.limits; serial = s; version = m.version; parameters = m.parameters }

abbrev pub with_version : List ℕ → Module → Module
with_version v m = record { adr = m.adr; on = m.on; link_fault = m.link_fault; analog = m.analog; alarm = m.alarm; limits = m.limits; serial = m.serial; version = v; parameters = m.parameters }

abbrev pub with_parameters : Parameters → Module → Module
with_parameters p m = record { adr = m.adr; on = m.on; link_fault = m.link_fault; analog = m.analog; alarm = m.alarm; limits = m.limits; serial = m.serial; version = m.version; parameters = p }

-- off, and all else as it was
abbrev pub switched_off : Module → Module
switched_off m = record { adr = m.adr; on = 0; link_fault = m.link_fault; analog = m.analog; alarm = m.alarm; limits = m.limits; serial = m.serial; version = m.version; parameters = m.parameters }

-- a record in the place of the one with an ADR; where there is none, nothing changes
abbrev pub stored : ℕ → Module → List Module → List Module
stored adr m ms = set ms (place_of adr ms) m

-- the record with an ADR changed
unfoldable pub replaced : ℕ → (Module → Module) → List Module → List Module
replaced adr f ms = stored adr (f (member_at adr ms)) ms

-- values dealt out to the members that are on, in order; a member without a value stays
unfoldable pub dealt : {A : Type 0} → (A → Module → Module) → List Module → List A → List Module
dealt f [] values = []
dealt f (m ∷ ms) [] = m ∷ ms
dealt f (m ∷ ms) (a ∷ values) = cond (is_on m) (f a m ∷ dealt f ms values) (m ∷ dealt f ms (a ∷ values))

-- as many members as before, and what stands in the places past them as it was
abbrev pub Kept : Table → Table → Type 0
Kept before t = (t.count ≡ before.count) × (drop before.count t.modules ≡ drop before.count before.modules)

-- a table by value with these members and no other change
pub record TableIs (before : Table) (ms : List Module) (t : Table) : Type 0 where
  pub kept : Kept before t
  pub members_are : members t ≡ ms
