-- A turn puts one more record.
use Rattle.groups.specs.Texts.{part_text}
use Rattle.groups.proofs.Texts.{put-nothing, put_more}
use Rattle.groups.proofs.put_all_on.Goals as goal

pub loop-member-init : goal.loop-member-init
loop-member-init g c = put-nothing c.args.out.now c.args.at (part_text g.P.Format.codec g.P.Part.part)

pub loop-member-preserved : goal.loop-member-preserved
loop-member-preserved g c =
    put_more (part_text g.P.Format.codec g.P.Part.part) c.members-members.result.now c.loop-member.member-index _ (rw c.members-members.ensures.value c.requires) c.loop-member.invariant c.loop-member-test.true c.put_on-next.ensures
