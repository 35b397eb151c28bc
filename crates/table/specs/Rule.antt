-- The table's rule (31): one to twelve records in rising ADR, the address rule, one m, every value encodable, marks 0 or 1.
use Rattle.std.specs.Prelude.{Bool, true, ◌&&◌, List, [], ◌∷◌, ℕ, ◌/◌, length, get_or, leb, ltb, eqb}
use Rattle.record.specs.declared.Module.{Module}
use Rattle.record.specs.Address.{is_address}
use Rattle.record.specs.Analog.{analog}
use Rattle.record.specs.Alarm.{alarm}
use Rattle.record.specs.Limits.{limits}
use Rattle.record.specs.Parameters.{parameters}
use Rattle.record.specs.Texts.{serial, version}
use Rattle.table.specs.declared.Table.{Table}
use Rattle.table.specs.Table.{blank, members}

-- every value can be encoded (list places beyond M or N are 0 then)
unfoldable pub encodable : Module → Bool
encodable m = (analog.ok m.analog && alarm.ok m.alarm) && (limits.ok m.limits && (serial.ok m.serial && (version.ok m.version && parameters.ok m.parameters)))

-- one record by itself
unfoldable pub fine : Module → Bool
fine m = (is_address m.adr && (leb m.on 1 && leb m.link_fault 1)) && encodable m

-- a record that may stand after an ADR, in a table of group m
abbrev pub follows : ℕ → ℕ → Module → Bool
follows m last x = (fine x && ltb last x.adr) && eqb (x.adr / 16) m

-- rising from an ADR on, each record fine, and all with one m
unfoldable pub rising : ℕ → ℕ → List Module → Bool
rising m last [] = true
rising m last (x ∷ xs) = follows m last x && rising m x.adr xs

unfoldable pub rule : List Module → Bool
rule ms = (leb 1 (length ms) && leb (length ms) 12) && rising ((get_or ms 0 blank).adr / 16) 0 ms

-- a table by value whose count is that of its records
unfoldable pub keeps : Table → Bool
keeps t = leb t.count 12 && rule (members t)
