-- A lent table by value: how many records it has, and the first twelve of them, with blank records in the other places.
use Rattle.std.specs.Prelude.{List, [], ◌∷◌, length, replicate}
use Rattle.record.specs.declared.Module.{Module}
use Rattle.table.specs.declared.Table.{Table}
use Rattle.table.specs.Table.{blank}

-- the records of a list over those of a row, place by place; the row keeps its length
unfoldable pub over : List Module → List Module → List Module
over [] ms = []
over (r ∷ row) [] = r ∷ row
over (r ∷ row) (m ∷ ms) = m ∷ over row ms

unfoldable pub loaded : List Module → Table
loaded ms = record { count = length ms; modules = over (replicate 12 blank) ms }
