-- A turn puts one more number behind those that were put; a number of 16 bits is its own word's.
use Rattle.std.proofs.Common.{◌≡◌, List, [], ◌∷◌, ℕ, zero, suc, ◌<◌, length, get_or, refl, arith, rules, ℤ, pos, SFits, w16, to_z, of_z, to_z-of_z}
use Rattle.codec.specs.Numbers.{signed}
use Rattle.codec.proofs.RowPuts.{put-turn, room-turn}
use Rattle.parts.proofs.bytes.put_all_signed.Goals as goal

-- a place within the list has its own value, whatever stands for none
own : (l : List ℤ) (i : ℕ) → i < length l → get_or l i (pos 0) ≡ get_or l i (get_or l i (pos 0))
own [] i h = absurd (omega arith)
own (x ∷ l) zero h = refl
own (x ∷ l) (suc i) h = own l i (omega arith)

pub put_signed-next-requires : goal.put_signed-next-requires
put_signed-next-requires c =
    let i = c.loop-value.value-index in
    let x = get_or c.args.list.now i (pos 0) in
    let f : SFits w16 x = search rules in
    let e : to_z w16 (of_z w16 x) ≡ x = to_z-of_z f in
    rw e (room-turn signed c.args.list.now (own c.args.list.now i (omega arith)) (omega arith) c.requires c.loop-value.invariant c.loop-value.auto.out)

pub loop-value-preserved : goal.loop-value-preserved
loop-value-preserved c = search (rules, put-turn)
