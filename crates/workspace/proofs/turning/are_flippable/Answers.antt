use Rattle.std.proofs.Common.{is_some, rules, tests, ◌∙◌}
use Rattle.std.proofs.lemmas.Iterator.{YieldsList-from_slice}
use Rattle.std.proofs.lemmas.Iterator.Search.{all_from_yields_List}
use Rattle.gates.specs.declared.gate.Gate.{Gate}
use Rattle.workspace.specs.Posing.{directed_gate}
use Rattle.workspace.proofs.Flips.{pass_directed}
use Rattle.workspace.proofs.turning.are_flippable.Goals as goal

pub returns : goal.returns
returns g c =
    let k = g.K.GateKind.means in
    all_from_yields_List (λ (x : Gate). is_some (k.flipped c.args.pose.flips (directed_gate k c.args.pose.back x))) _ _ _ c.all.ensures.ran (YieldsList-from_slice c.args.gates.now cc) (λ x b q k. search (rules, tests))
    ∙ pass_directed k (λ x. is_some (k.flipped c.args.pose.flips x)) c.args.pose.back c.args.gates.now
