-- What was listed, and the totals, are the listing of what was read.
use Rattle.std.proofs.Common.{arith}
use Rattle.list.proofs.Over.{closes-prints}
use Rattle.list.proofs.list_input.Goals as goal

pub returns : goal.returns
returns g c =
    closes-prints c.list_all-turn.result c.close.result c.args.store.now c.list_all-turn.new.store c.list_all-turn.new.out c.close.new.out
    (omega arith) (omega arith) c.list_all-turn.ensures c.close.ensures
