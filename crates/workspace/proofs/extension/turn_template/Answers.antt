use Rattle.std.proofs.Common.{◌∙◌, map, rules, sym, ap}
use Rattle.std.proofs.lemmas.Simd.{map-map}
use Rattle.fixed_list.specs.Lists.{contents}
use Rattle.workspace.specs.declared.posed.Member.{Member}
use Rattle.workspace.specs.Turns.{at_position, on_gate}
use Rattle.workspace.proofs.Images.{zip_kept}
use Rattle.workspace.proofs.extension.turn_template.Goals as goal

pub returns : goal.returns
returns g c =
    let rename = on_gate (g.K.GateKind.means.renamed (contents c.args.named.now.table)) in
    zip_kept _ (λ (m : Member). rename (at_position m.position m.gate)) (λ (m : Member). at_position m.position m.gate) (λ x y r. search rules) (contents c.pose-posed.result) (contents c.map.result) c.map.ensures
    ∙ sym (map-map rename (λ (m : Member). at_position m.position m.gate) (contents c.pose-posed.result))
    ∙ ap (map rename) c.pose-posed.ensures
