-- While waiting, all up to the first SOI pass.
use Rattle.receiver.proofs.Running.{passed-wait}
use Rattle.receiver.proofs.Receiver.pass.Goals as goal

pub returns-in-Waiting : goal.returns-in-Waiting
returns-in-Waiting c = rw c.in-Waiting.is (passed-wait c.args.store.now c.args.piece.now c.find_soi.result c.requires.0 c.find_soi.ensures)
