-- What was read so far is listed, and less is left after each turn that goes on.
use Rattle.std.proofs.Common.{[], sym, ap, subst, arith, rules}
use Rattle.listing.specs.declared.Listing.{Listing}
use Rattle.listing.specs.Piece.{fresh, left}
use Rattle.list.specs.List.{Over}
use Rattle.list.proofs.Over.{over_none, turn-less, sofar-more, sofar-front}
use Rattle.list.proofs.list_all.Goals as goal

pub loop-turn-init : goal.loop-turn-init
loop-turn-init g c =
    let store = c.args.store.now in
    record {
      some = omega (arith, ap left c.new-now.ensures);
      sofar = record { bytes = []; few = omega arith; listed = subst (λ (l : Listing). Over fresh store [] l store []) (sym c.new-now.ensures) (over_none fresh store []) };
    }

pub returns-in_err-turn : goal.returns-in_err-turn
returns-in_err-turn g c = sofar-front c.loop-turn.invariant.sofar c.from_residual.ensures c.in_err-turn.ensures

pub returns-then-is_last : goal.returns-then-is_last
returns-then-is_last g c = (sofar-more c.loop-turn.invariant.sofar c.in_ok-turn.ensures, search rules)

pub loop-turn-smaller : goal.loop-turn-smaller
loop-turn-smaller g c = (turn-less c.in_ok-turn.ensures (search rules)).0

pub loop-turn-preserved : goal.loop-turn-preserved
loop-turn-preserved g c =
    record { some = (turn-less c.in_ok-turn.ensures (search rules)).1; sofar = sofar-more c.loop-turn.invariant.sofar c.in_ok-turn.ensures }
