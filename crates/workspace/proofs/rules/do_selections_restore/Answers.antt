use Rattle.std.proofs.Common.{◌<◌, ◌^◌, ℕ, List, length, refl, ap, ◌∙◌, rules, arith}
use Rattle.std.proofs.lemmas.Nat.{one_shl}
use Rattle.std.proofs.lemmas.Iterator.{YieldsList-from_range}
use Rattle.std.proofs.lemmas.Iterator.Search.{all_from_yields_List}
use borrow.Author.Tests.{tests}
use Rattle.gates.specs.Lines.{width, every_below}
use Rattle.workspace.specs.Proposals.{template_of}
use Rattle.workspace.proofs.Ranges.{all_below}
use Rattle.workspace.proofs.Stepping.{part_test}
use Rattle.workspace.proofs.rules.do_selections_restore.Goals as goal

pub returns : goal.returns
returns g c =
    let t = template_of c.args.template.now in
    let n = length c.groups.result.now in
    let few : n < width = omega (arith, c.groups.ensures.few) in
    let test = part_test g.K.GateKind.means t in
    all_from_yields_List test _ _ c.all.result c.all.ensures.ran (YieldsList-from_range 0 _ (2 ^ n) refl (omega (arith, one_shl n width few))) (λ x b q k. search (rules, tests))
    ∙ all_below (2 ^ n) (2 ^ n) test refl
    ∙ ap (λ (groups : List ℕ). every_below (2 ^ length groups) test) c.groups.ensures.is
