use Rattle.std.proofs.Common.{◌≡◌, rules, tests, ◌∙◌}
use Rattle.std.specs.List.{list_any}
use Rattle.std.proofs.lemmas.Iterator.{YieldsList-from_slice}
use Rattle.std.proofs.lemmas.Iterator.Search.{any_from_yields_List}
use Rattle.workspace.specs.declared.posed.Member.{Member}
use Rattle.workspace.specs.Extensions.{signed}
use Rattle.workspace.proofs.Asks.{some_is}
use Rattle.workspace.proofs.asking.some_has.Goals as goal

pub returns : goal.returns
returns c =
    (let is : c.any.result ≡ list_any (λ (m : Member). signed c.args.sign m.gate c.args.line) c.args.chosen.now = any_from_yields_List (λ (m : Member). signed c.args.sign m.gate c.args.line) _ _ _ c.any.ensures.ran (YieldsList-from_slice c.args.chosen.now cc) (λ x b q k. search (rules, tests)) in is) ∙ some_is c.args.sign c.args.line c.args.chosen.now
