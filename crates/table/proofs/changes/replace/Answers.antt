-- The record is changed at its place.
use Rattle.table.proofs.changes.Storing.{there}
use Rattle.table.proofs.changes.replace.Goals as goal

pub returns-in-Some : goal.returns-in-Some
returns-in-Some g c = there c.args.table c.args.adr (g.P.Part.with c.args.value) c.in-Some.place c.put_in.new.member _ c.in-Some.ensures.value c.put_in.ensures
