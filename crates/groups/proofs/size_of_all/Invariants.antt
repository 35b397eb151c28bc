-- The lengths of the first records have been added.
use Rattle.std.proofs.Common.{◌≡◌, ◌*◌, ◌≤◌, length, take}
use Rattle.groups.specs.Texts.{part_text, text_of_all}
use Rattle.groups.proofs.size_of_all.Given as goal

abbrev pub invariant-loop-member : goal.invariant-loop-member
invariant-loop-member g l = (l.size ≤ 2000 * l.member-index) × (l.size ≡ length (text_of_all (part_text g.P.Format.codec g.P.Part.part) (take l.member-index l.members)))
