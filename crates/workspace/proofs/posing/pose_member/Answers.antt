use Rattle.std.proofs.Common.{◌<◌, ℕ, List, length, get_or, sym, ap, ◌∙◌, arith}
use Rattle.gates.specs.declared.gate.Gate.{Gate}
use Rattle.gates.specs.Cascades.{flipped_or}
use Rattle.workspace.specs.Posing.{directed_gate}
use Rattle.workspace.specs.Turns.{at_position}
use Rattle.workspace.proofs.Poses.{no_gate, posed_gates, posed_at}
use Rattle.workspace.proofs.posing.pose_member.Goals as goal

pub returns : goal.returns
returns g c blank =
    let k = g.K.GateKind.means in
    let gates = c.gates-gates.result.now in
    let back = c.args.pose.back in
    let r = c.args.pose.rotation in
    let f = c.args.pose.flips in
    let inside : c.args.place < length gates = omega (arith, c.requires, ap length c.gates-gates.ensures.is) in
    ap (at_position c.find_source-position.result) c.pose_gate.ensures
    ∙ ap (λ (q : ℕ). at_position q (flipped_or k f (directed_gate k back (get_or gates q no_gate)))) c.find_source-position.ensures.is
    ∙ sym (posed_at k gates back r f c.args.place blank inside)
    ∙ ap (λ (gs : List Gate). get_or (posed_gates k gs back r f) c.args.place blank) c.gates-gates.ensures.is
