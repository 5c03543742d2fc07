use Rattle.std.proofs.Common.{◌<◌, ◌^◌, refl, ◌∙◌, rules, arith}
use Rattle.std.proofs.lemmas.Nat.{one_shl}
use Rattle.std.proofs.lemmas.Iterator.{YieldsList-from_range}
use Rattle.std.proofs.lemmas.Iterator.Search.{all_from_yields_List}
use borrow.Author.Tests.{tests}
use Rattle.gates.specs.Lines.{width}
use Rattle.workspace.proofs.Ranges.{all_below}
use Rattle.workspace.proofs.Stepping.{restored}
use Rattle.workspace.proofs.restoring.do_chosen_restore.Goals as goal

pub returns : goal.returns
returns g c =
    let lines = c.args.lines in
    let few : lines < width = omega (arith, c.requires) in
    let test = restored g.K.GateKind.means c.args.gates.now c.args.chosen in
    all_from_yields_List test _ _ c.all.result c.all.ensures.ran (YieldsList-from_range 0 _ (2 ^ lines) refl (omega (arith, one_shl lines width few))) (λ x b q k. search (rules, tests))
    ∙ all_below (2 ^ lines) (2 ^ lines) test refl
