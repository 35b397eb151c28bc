-- A turn adds the length of one more record.
use Rattle.std.proofs.Common.{arith}
use Rattle.groups.specs.Texts.{part_text}
use Rattle.groups.proofs.Texts.{size_more}
use Rattle.groups.proofs.size_of_all.Goals as goal

pub loop-member-preserved : goal.loop-member-preserved
loop-member-preserved g c =
    (omega (arith, c.size_on-size.ensures.few), size_more (part_text g.P.Format.codec g.P.Part.part) c.members-members.result.now c.loop-member.member-index _ c.loop-member-test.true c.loop-member.invariant.1 c.size_on-size.ensures.value)
