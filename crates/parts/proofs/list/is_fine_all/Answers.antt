-- The test of each value is that of the row.
use Rattle.std.proofs.Common.{◌∙◌, rules, tests}
use Rattle.std.proofs.lemmas.Iterator.{YieldsList-from_slice}
use Rattle.std.proofs.lemmas.Iterator.Search.{all_from_yields_List}
use Rattle.parts.proofs.Alls.{all-row}
use Rattle.parts.proofs.list.is_fine_all.Goals as goal

pub returns : goal.returns
returns g c =
    all_from_yields_List g.F.Format.codec.ok _ _ _ c.all.ensures.ran (YieldsList-from_slice c.args.list.now cc) (λ x b q k. search (rules, tests))
    ∙ all-row g.F.Format.codec c.args.list.now
