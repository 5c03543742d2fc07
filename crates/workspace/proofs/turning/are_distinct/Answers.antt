use Rattle.std.proofs.Common.{rules, tests, ◌∙◌}
use Rattle.std.proofs.lemmas.Iterator.{YieldsList-from_slice}
use Rattle.std.proofs.lemmas.Iterator.Consumers.{YieldsList-from_enumerate}
use Rattle.std.proofs.lemmas.Iterator.Search.{all_from_yields_List}
use Rattle.workspace.proofs.Flips.{stands_once, distinct_is}
use Rattle.workspace.proofs.turning.are_distinct.Goals as goal

pub returns : goal.returns
returns c =
    let table = c.args.table.now in
    all_from_yields_List (stands_once table) _ _ _ c.all.ensures.ran (YieldsList-from_enumerate (YieldsList-from_slice table cc) cc) (λ x b q k. search (rules, tests))
    ∙ distinct_is table
