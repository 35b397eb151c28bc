-- The test of each value is that of the list.
use Rattle.std.proofs.Common.{◌∙◌, rules, tests}
use Rattle.std.proofs.lemmas.Iterator.{YieldsList-from_slice}
use Rattle.std.proofs.lemmas.Iterator.Search.{all_from_yields_List}
use Rattle.parts.proofs.Alls.{all-every}
use Rattle.parts.proofs.list.all_zero.Goals as goal

pub returns : goal.returns
returns g c =
    all_from_yields_List g.F.Element.zero.test _ _ _ c.all.ensures.ran (YieldsList-from_slice c.args.list.now cc) (λ x b q k. search (rules, tests))
    ∙ all-every g.F.Element.zero.test c.args.list.now
