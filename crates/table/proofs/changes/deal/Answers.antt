-- The members stand in the first places, and the others stay.
use Rattle.std.proofs.Common.{ap, length}
use Rattle.table.proofs.changes.Dealing.{changed}
use Rattle.table.proofs.changes.deal.Goals as goal

pub returns : goal.returns
returns g c =
    changed g.P.Part.with c.args.values.now c.args.table (length c.members-count.result.now) c.deal_out.new.members (ap length c.members-count.ensures.value) c.deal_out.auto.members c.deal_out.ensures
