-- The records of the first members have been put.
use Rattle.std.proofs.Common.{take}
use Rattle.buffer.specs.Put.{Put}
use Rattle.groups.specs.Texts.{part_text, text_of_all}
use Rattle.groups.proofs.put_all_on.Given as goal

abbrev pub invariant-loop-member : goal.invariant-loop-member
invariant-loop-member g l = Put l.initial.out l.at (text_of_all (part_text g.P.Format.codec g.P.Part.part) (take l.member-index l.members)) l.out l.next
