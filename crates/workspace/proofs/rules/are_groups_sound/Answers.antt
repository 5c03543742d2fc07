use Rattle.std.proofs.Common.{Bool, ◌&&◌, length, sym, ap, ◌∙◌, rules}
use Rattle.std.specs.List.{list_all}
use Rattle.std.proofs.lemmas.Bool.{le-leb}
use Rattle.std.proofs.lemmas.Iterator.{YieldsList-from_slice}
use Rattle.std.proofs.lemmas.Iterator.Search.{all_from_yields_List}
use borrow.Author.Tests.{tests}
use Rattle.workspace.specs.TemplateTests.{group_test}
use Rattle.workspace.proofs.rules.are_groups_sound.Goals as goal

pub returns-then-proposal-le-MOST_GROUPS : goal.returns-then-proposal-le-MOST_GROUPS
returns-then-proposal-le-MOST_GROUPS c =
    let p = c.args.proposal.now in
    let test = group_test (length p.gates.now) in
    all_from_yields_List test _ _ c.all.result c.all.ensures.ran (YieldsList-from_slice p.groups.now cc) (λ x b q k. search (rules, tests))
    ∙ ap (λ (few : Bool). few && list_all test p.groups.now) (sym (le-leb (length p.groups.now) 3 c.if-proposal-le-MOST_GROUPS.true))
