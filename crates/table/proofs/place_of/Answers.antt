-- What `position` answers.
use Rattle.std.proofs.Common.{◌∙◌, ap, rules, tests, eqb, ltb, length, cond, Some, None, ℕ}
use Rattle.std.proofs.lemmas.Iterator.{YieldsList-from_slice}
use Rattle.std.proofs.lemmas.Iterator.Search.{position_from_yields_List}
use Rattle.table.specs.Table.{members}
use Rattle.table.proofs.Asked.{first_place}
use Rattle.table.proofs.place_of.Goals as goal

pub returns-clause-value : goal.returns-clause-value
returns-clause-value c =
    let ms = members c.args.table in
    position_from_yields_List (λ m. eqb m.adr c.args.adr) _ _ _ c.position.ensures.ran (YieldsList-from_slice ms cc) (λ x b q k. search (rules, tests))
    ∙ ap (λ (n : ℕ). cond (ltb n (length ms)) (Some n) None) (first_place c.args.adr ms)
