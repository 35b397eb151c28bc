-- A table by value has twelve places for records, whatever its count is.
use Rattle.std.proofs.Common.{◌≡◌, List, length}
use mir.Val.{Val}
use denote.Laws.{Is}
use denote.Struct.Laws as laws
use Rattle.table.specs.declared.Table.{Table}
use Rattle.table.specs.contracts.Table as table
use Rattle.table.proofs.Table.TheLaws as table-laws

pub twelve : (t : Table) (vs : List Val) → Is table.the_row t vs → length t.modules ≡ 12
twelve t vs g = (laws.owed table.the_type table-laws.the_laws t vs g).1.0.1.0.1
