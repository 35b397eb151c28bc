-- What is left of the members decides.
use Rattle.std.proofs.Common.{◌≡◌, drop}
use Rattle.table.specs.Rule.{rising}
use Rattle.table.proofs.rule.is_rising.Given as goal

abbrev pub invariant-loop-member : goal.invariant-loop-member
invariant-loop-member l = rising l.m l.last (drop l.member-index l.members) ≡ rising l.m 0 l.members
