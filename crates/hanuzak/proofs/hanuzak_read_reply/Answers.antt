-- What is read into the loaded table is stored in the lent one, where a record changes.
use Rattle.std.proofs.Common.{arith}
use Rattle.hanuzak.proofs.Lent.{lent-reading}
use Rattle.hanuzak.proofs.hanuzak_read_reply.Goals as goal

pub returns : goal.returns
returns c =
    let done = c.read_flat-done in
    lent-reading c.args.table.now c.args.question c.args.stretch.now done.result c.store.new.table (omega arith) (rw c.load.ensures at done.ensures) c.store.ensures
