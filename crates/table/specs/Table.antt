-- The table's records as a list, and what is asked of it: members, the master, who is on.
use Rattle.std.specs.Prelude.{Bool, true, false, cond, ◌&&◌, ◌||◌, List, [], ◌∷◌, ℕ, suc, ◌+◌, ◌/◌, ◌%◌, length, get_or, take, leb, ltb, eqb, pos, Option, Some, None}
use Rattle.record.specs.declared.Module.{Module}
use Rattle.record.specs.Analog.{to_analog}
use Rattle.record.specs.Alarm.{to_alarm}
use Rattle.record.specs.Nothing.{no_list, no_capacities, no_analog, no_codes, no_singles, no_status, no_alarm, no_limits, no_serial, no_version, no_parameters}
use Rattle.table.specs.declared.Table.{Table}

-- the records that are there
unfoldable pub members : Table → List Module
members t = take t.count t.modules

-- on, or off
abbrev pub is_on : Module → Bool
is_on m = eqb m.on 1

abbrev pub has_fault : Module → Bool
has_fault m = eqb m.link_fault 1

-- n = 2 is the master battery (02, 12, up to 72 in hex)
unfoldable pub is_master : ℕ → Bool
is_master adr = eqb (adr % 16) 2 && leb (adr / 16) 7

-- a record with 0 in every place
abbrev pub blank : Module
blank = record {
  adr = 0;
  on = 0;
  link_fault = 0;
  analog = no_analog;
  alarm = no_alarm;
  limits = no_limits;
  serial = no_serial;
  version = no_version;
  parameters = no_parameters;
}

-- a record before anything was read into it: on, without a link fault, one cell and one temperature as the least that can be sent, and 0 in every other place
abbrev pub new_module : ℕ → Module
new_module adr = record {
  adr = adr;
  on = 1;
  link_fault = 0;
  analog = to_analog ((1, no_list 16), ((1, no_list 8), (pos 0, (0, no_capacities))));
  alarm = to_alarm ((1, no_codes 16), ((1, no_codes 8), (no_singles, no_status)));
  limits = no_limits;
  serial = no_serial;
  version = no_version;
  parameters = no_parameters;
}

-- the place of the first record with this ADR, or the length
unfoldable pub place_of : ℕ → List Module → ℕ
place_of adr [] = 0
place_of adr (m ∷ ms) = cond (eqb m.adr adr) 0 (suc (place_of adr ms))

-- that place, where there is such a record
abbrev pub place_found : ℕ → List Module → Option ℕ
place_found adr ms = cond (ltb (place_of adr ms) (length ms)) (Some (place_of adr ms)) None

unfoldable pub has_member : ℕ → List Module → Bool
has_member adr ms = ltb (place_of adr ms) (length ms)

-- that record; where there is none, the blank one, which is off
unfoldable pub member_at : ℕ → List Module → Module
member_at adr ms = get_or ms (place_of adr ms) blank

-- a link fault of any member that is on
unfoldable pub any_fault : List Module → Bool
any_fault [] = false
any_fault (m ∷ ms) = (is_on m && has_fault m) || any_fault ms

abbrev pub one_if : Bool → ℕ
one_if true = 1
one_if false = 0

-- the members that are on
unfoldable pub count_on : List Module → ℕ
count_on [] = 0
count_on (m ∷ ms) = one_if (is_on m) + count_on ms
