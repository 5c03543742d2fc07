use Rattle.std.proofs.Common.{◌≡◌, List, length, take, rules, ◌∙◌, ap}
use lib.Pointwise.{pointwise}
use Rattle.fixed_list.specs.Lists.{contents}
use Rattle.gates.specs.declared.gate.Gate.{Gate}
use Rattle.workspace.specs.declared.posed.Member.{Member}
use Rattle.workspace.specs.OccurrenceTests.{same_gate}
use Rattle.workspace.specs.Posing.{placed_of}
use Rattle.workspace.specs.Turns.{gates_of}
use Rattle.workspace.proofs.Lists.{turned}
use Rattle.workspace.proofs.CarryingOut.{members_gates}
use Rattle.workspace.proofs.choice.are_first.Goals as goal

pub returns : goal.returns
returns c =
    let chosen = c.args.chosen.now in
    let members = contents c.args.extended.now in
    let is : c.as_slice.result.now ≡ gates_of (placed_of members) =
    c.as_slice.ensures.is ∙ turned _ (λ (m : Member). m.gate) (λ x y r. search rules) members (contents c.map-gates.result) c.map-gates.ensures ∙ members_gates members in
    c.starts_with.ensures.value ∙ ap (λ (gs : List Gate). pointwise same_gate chosen (take (length chosen) gs)) is
