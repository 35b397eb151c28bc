-- A frame that is told stands in the store.
use Rattle.std.proofs.Common.{arith}
use Rattle.receiver.specs.Step.{paper}
use Rattle.listing.specs.Within.{Stands}
use Rattle.listing.proofs.Parts.{frame-lines, run_steps}
use Rattle.listing.proofs.Listing.advance.Goals as goal

pub returns-in-Some-Ok : goal.returns-in-Some-Ok
returns-in-Some-Ok c =
    let f = c.in-Some-Ok in
    let h : Stands (paper c.run-ran.result.event) c.run-ran.new.store = grind (arith, run_steps) in
    let e = frame-lines c.run-ran.result.event f.field-0 f.frame c.back-soi.result c.run-ran.new.store f.is (rw f.is at f.field-0-is) h in
    grind (arith, run_steps)
