-- What `any` answers.
use Rattle.std.proofs.Common.{◌∙◌, rules, tests, ◌&&◌}
use Rattle.std.proofs.lemmas.Iterator.{YieldsList-from_slice}
use Rattle.std.proofs.lemmas.Iterator.Search.{any_from_yields_List}
use Rattle.table.specs.Table.{is_on, has_fault, members}
use Rattle.table.proofs.Asked.{some_fault}
use Rattle.table.proofs.any_fault.Goals as goal

pub returns : goal.returns
returns c =
    any_from_yields_List (λ m. is_on m && has_fault m) _ _ _ c.any.ensures.ran (YieldsList-from_slice (members c.args.table) cc) (λ x b q k. search (rules, tests))
    ∙ some_fault (members c.args.table)
