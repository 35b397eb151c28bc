-- 31, then 32, then flag, FFH and the records.
use Rattle.std.proofs.Common.{◌≡◌, subst, true, arith}
use Rattle.std.proofs.lemmas.Result.{err_from_is_err_and}
use Rattle.table.specs.declared.Table.{Table}
use Rattle.table.specs.Rule.{keeps}
use Rattle.groups.proofs.Texts.{group_breaks, group_short, group_written}
use Rattle.groups.proofs.write_group.Goals as goal

pub returns-in_err-ruled : goal.returns-in_err-ruled
returns-in_err-ruled g c =
    let broken = c.in_err-ruled.ensures in
    let gives = err_from_is_err_and c.from_residual.result c.from_residual.ensures.1 in
    rw (gives.1, gives.2, broken.1) (group_breaks g.P.Format.codec g.P.Format.some g.P.Part.part _ _ _ _ broken.0)

pub returns-then-out-size_of_all : goal.returns-then-out-size_of_all
returns-then-out-size_of_all g c =
    let same = c.in_ok-ruled.ensures in
    let kept = subst (λ (t : Table). keeps t ≡ true) same c.in_ok-ruled.ruled.kept in
    let size = rw same at c.size_of_all.ensures.value in
    group_short g.P.Format.codec g.P.Format.some g.P.Part.part _ c.args.flag _ _ kept (omega (arith, size, c.if-out-size_of_all.true))

pub returns : goal.returns
returns g c =
    let same = c.in_ok-ruled.ensures in
    let kept = subst (λ (t : Table). keeps t ≡ true) same c.in_ok-ruled.ruled.kept in
    let size = rw same at c.size_of_all.ensures.value in
    group_written g.P.Format.codec g.P.Format.some g.P.Part.part _ c.args.flag _ _ kept (omega (arith, size, c.if-out-size_of_all.false)) c.put_all-at.ensures (rw same at c.put_all_on.ensures)
