-- A turn stores one more byte, or what the place has.
use Rattle.std.proofs.Common.{ap, ◌∙◌, get_or, arith, length-set, get_or-take}
use Rattle.receiver.proofs.Storing.{stored-none, stored-copy, store-turn}
use Rattle.receiver.proofs.store_few.Goals as goal

pub returns-in_default : goal.returns-in_default
returns-in_default c = stored-none c.args.store.now c.args.at c.args.s.now

pub loop-j-preserved : goal.loop-j-preserved
loop-j-preserved c =
    let l = c.loop-j in
    let a = c.args in
    let cut = c.in-Some.ensures.cases in
    let x = ap (λ few. get_or few l.j 0) cut.0 ∙ get_or-take 4 a.s.now l.j 0 (omega arith) in
    let turn = store-turn a.store.now a.at a.s.now l.store l.k l.j c.requires.fits (omega arith) l.invariant.2 l.invariant.3 c.is_end.result x c.is_end.ensures c.select_unpredictable.ensures c.from-k.ensures in
    (simp length-set l.invariant.0, omega (arith, turn.0), turn.1, turn.2)

pub returns : goal.returns
returns c = stored-copy c.args.store.now c.args.at c.args.s.now c.loop-j.k c.loop-j.store c.loop-j.invariant.2 c.loop-j.invariant.3
