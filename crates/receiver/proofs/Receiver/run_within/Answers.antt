-- A turn passes some bytes and steps over one: stepping goes on from there as from the start.
use Rattle.std.proofs.Common.{not, sym, ap, ◌∙◌, arith}
use Rattle.receiver.proofs.Events.{nothing-told}
use Rattle.receiver.proofs.Running.{run-within-is, turn_end, turn-stop, turn_more}
use Rattle.receiver.specs.Step.{gives, paper}
use Rattle.receiver.proofs.Receiver.run_within.Goals as goal

pub returns-in_default : goal.returns-in_default
returns-in_default c =
    let l = c.loop-byte in
    let a = c.args in
    turn_end a.piece.now l.invariant.0 l.invariant.2 c.pass-passed.ensures c.moved-at.ensures c.in_default.ensures.cases
    ∙ sym (run-within-is a.self a.store.now a.piece.now c.requires.0 c.requires.1)

pub returns-then-is_some : goal.returns-then-is_some
returns-then-is_some c =
    let l = c.loop-byte in
    let a = c.args in
    let x = c.advance-stepped in
    let some = nothing-told x.result.event ∙ ap not (sym c.is_some.ensures ∙ c.if-is_some.true) in
    turn-stop a.piece.now l.invariant.0 l.invariant.2 c.pass-passed.ensures c.moved-at.ensures c.in-Some.ensures.cases.0 (gives x.result.next x.new.store (paper x.result.event)) x.ensures
    some c.count.ensures
    ∙ sym (run-within-is a.self a.store.now a.piece.now c.requires.0 c.requires.1)

pub loop-byte-preserved : goal.loop-byte-preserved
loop-byte-preserved c =
    let l = c.loop-byte in
    let x = c.advance-stepped in
    let none = nothing-told x.result.event ∙ ap not (sym c.is_some.ensures ∙ c.if-is_some.false) in
    turn_more c.args.piece.now l.invariant.0 l.invariant.2 c.pass-passed.ensures c.moved-at.ensures c.in-Some.ensures.cases.0 (gives x.result.next x.new.store (paper x.result.event)) x.ensures
    none (omega (arith, c.pass-passed.auto.store, l.invariant.1))
