-- What was scanned is copied whole, and of the bytes behind it some are stored too.
use Rattle.std.proofs.Common.{◌≡◌, length, take, arith, rules, length-take, length-take-le}
use Rattle.buffer.proofs.Puts.{puts_mid}
use Rattle.receiver.proofs.Storing.{stored-both, passed-stored}
use Rattle.receiver.proofs.store_plain.Goals as goal

pub returns-then-k-eq0 : goal.returns-then-k-eq0
returns-then-k-eq0 c =
    let a = c.args in
    let most = c.min-most in
    passed-stored a.count a.store.now a.piece.now _ most.result _ c.requires.0 (omega (arith, most.ensures, c.requires)) (omega (arith, most.ensures)) c.store_few.ensures

pub returns : goal.returns
returns c =
    let a = c.args in
    let most = c.min-most in
    let long : length (take c.plain-k.result (take most.result a.piece.now)) ≡ c.plain-k.result = length-take-le c.plain-k.result (take most.result a.piece.now) c.plain-k.ensures.within in
    passed-stored a.count a.store.now a.piece.now _ most.result _ c.requires.0 (omega (arith, most.ensures, c.requires)) (omega (arith, most.ensures))
    (stored-both a.store.now a.count _ _ _ c.plain-k.result c.store_few-2.result _ (omega (arith, most.ensures, c.requires, length-take most.result a.piece.now)) c.plain-k.ensures.before
    (search (rules, puts_mid)) c.store_few-2.ensures)
