-- The refusal of the INFO, or every record dealt out.
use Rattle.std.proofs.Common.{rules}
use Rattle.hex_chars.specs.Hex.{unhexes}
use Rattle.table.specs.Table.{members}
use Rattle.reply.proofs.Groups.{group_refused, group_taken}
use Rattle.reply.proofs.read_group.Goals as goal

pub returns-in_err-flag-clause-is : goal.returns-in_err-flag-clause-is
returns-in_err-flag-clause-is g c =
    rw (group_refused g.P.Format.codec g.P.Format.some g.P.Part.with (members c.args.table) (unhexes c.args.info.now) c.args.none c.take_group.new.places _ _ c.requires c.in_err-flag.ensures.value) (search rules)

pub returns-clause-is : goal.returns-clause-is
returns-clause-is g c =
    rw (group_taken g.P.Format.codec g.P.Format.some g.P.Part.with (members c.args.table) (unhexes c.args.info.now) c.args.none _ _ _ _ c.requires c.in_ok-flag.ensures.value c.in_ok-flag.ensures.count) (search rules)
