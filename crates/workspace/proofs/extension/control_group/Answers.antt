use Rattle.std.proofs.Common.{◌∙◌, rules, sym}
use Rattle.std.proofs.lemmas.Simd.{map-map}
use Rattle.fixed_list.specs.Lists.{contents}
use Rattle.workspace.specs.declared.posed.Member.{Member}
use Rattle.workspace.specs.Extensions.{added_of, controlled_in}
use Rattle.workspace.specs.Turns.{at_position}
use Rattle.workspace.proofs.Images.{zip_kept}
use Rattle.workspace.proofs.extension.control_group.Goals as goal

pub returns : goal.returns
returns g c =
    let control = controlled_in g.K.GateKind.means c.args.groups.now (added_of c.args.addition) in
    zip_kept _ (λ (m : Member). control (at_position m.position m.gate)) (λ (m : Member). at_position m.position m.gate) (λ x y r. search rules) (contents c.args.posed.now) (contents c.map.result) c.map.ensures
    ∙ sym (map-map control (λ (m : Member). at_position m.position m.gate) (contents c.args.posed.now))
