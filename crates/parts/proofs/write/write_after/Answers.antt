-- 33, then 32, then the front and the value after it.
use Rattle.std.proofs.Common.{◌≡◌, true, false, ◌&&◌, ◌++◌, arith, length-append}
use Rattle.buffer.proofs.Puts.{put_then}
use Rattle.buffer.proofs.Writers.{writing-fault, writing-short, writing-all}
use Rattle.record.specs.Address.{is_address}
use Rattle.parts.proofs.write.write_after.Goals as goal

pub returns-then-not-is_address : goal.returns-then-not-is_address
returns-then-not-is_address g c =
    let text = c.args.front.now ++ g.F.Format.codec.put c.args.value in
    let e : is_address c.args.adr ≡ false = cc in
    writing-fault 33 text c.args.out.now (is_address c.args.adr && g.F.Format.codec.ok c.args.value) (rw e)

pub returns-then-not-is_fine : goal.returns-then-not-is_fine
returns-then-not-is_fine g c =
    let text = c.args.front.now ++ g.F.Format.codec.put c.args.value in
    let e : is_address c.args.adr ≡ true = cc in
    let f : g.F.Format.codec.ok c.args.value ≡ false = cc in
    writing-fault 33 text c.args.out.now (is_address c.args.adr && g.F.Format.codec.ok c.args.value) (rw (e, f))

pub returns-then-out-front : goal.returns-then-out-front
returns-then-out-front g c =
    let text = c.args.front.now ++ g.F.Format.codec.put c.args.value in
    let e : is_address c.args.adr ≡ true = cc in
    let f : g.F.Format.codec.ok c.args.value ≡ true = cc in
    writing-short 33 text c.args.out.now (is_address c.args.adr && g.F.Format.codec.ok c.args.value) (rw (e, f))
    (omega (arith, length-append c.args.front.now (g.F.Format.codec.put c.args.value), c.size.ensures.put f, c.if-out-front.true))

pub returns : goal.returns
returns g c =
    let text = c.args.front.now ++ g.F.Format.codec.put c.args.value in
    let e : is_address c.args.adr ≡ true = cc in
    let f : g.F.Format.codec.ok c.args.value ≡ true = cc in
    let n = length-append c.args.front.now (g.F.Format.codec.put c.args.value) in
    writing-all 33 text c.args.out.now (is_address c.args.adr && g.F.Format.codec.ok c.args.value) (rw (e, f))
    (omega (arith, n, c.size.ensures.put f, c.if-out-front.false)) c.put.new.out c.put.result
    (put_then (record { fits = omega (arith, n, c.size.ensures.put f, c.if-out-front.false) }) c.put_all-at.ensures c.put.ensures)
