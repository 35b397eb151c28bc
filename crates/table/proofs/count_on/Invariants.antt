-- Those that were counted and those that are left are all.
use Rattle.std.proofs.Common.{◌≡◌, ◌+◌, ◌≤◌, drop}
use Rattle.table.specs.Table.{count_on}
use Rattle.table.proofs.count_on.Given as goal

abbrev pub invariant-loop-member : goal.invariant-loop-member
invariant-loop-member l = (l.on ≤ l.member-index) × (l.on + count_on (drop l.member-index l.member-items) ≡ count_on l.member-items)
