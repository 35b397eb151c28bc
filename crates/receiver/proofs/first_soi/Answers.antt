-- The library's `position`, or the length where there is none.
use Rattle.std.proofs.Common.{◌∙◌, rules, tests}
use Rattle.std.proofs.lemmas.Iterator.{YieldsList-from_slice}
use Rattle.std.proofs.lemmas.Iterator.Search.{position_from_yields_List}
use Rattle.receiver.proofs.Scans.{first-position}
use Rattle.receiver.specs.Pass.{is_soi}
use Rattle.receiver.proofs.first_soi.Goals as goal

pub returns : goal.returns
returns c =
    let s = c.args.s.now in
    let place = position_from_yields_List is_soi _ _ c.position.result c.position.ensures.ran (YieldsList-from_slice s cc) (λ x b q k. search (rules, tests)) in
    c.unwrap_or.ensures ∙ first-position is_soi s c.position.result place
