use Rattle.std.proofs.Common.{◌<◌, length, ap, ◌∙◌, arith}
use Rattle.std.proofs.lemmas.List.{take_all}
use Rattle.fixed_list.specs.Lists.{contents}
use Rattle.workspace.specs.declared.posed.Member.{Member}
use Rattle.workspace.specs.Matching.{posed}
use Rattle.workspace.specs.Posing.{placed_of}
use Rattle.workspace.specs.Proposals.{template_of}
use Rattle.workspace.specs.Turns.{at_position}
use Rattle.workspace.proofs.Images.{filled_next}
use Rattle.workspace.proofs.Poses.{no_gate, posed_long}
use Rattle.workspace.proofs.posing.pose.Goals as goal

pub loop-place-preserved : goal.loop-place-preserved
loop-place-preserved g c =
    let k = g.K.GateKind.means in
    let t = template_of c.args.template.now in
    let p = c.args.pose in
    let whole = posed k t p.back p.rotation p.flips in
    let blank = at_position 0 no_gate in
    let inside : c.loop-place.place < length whole = omega (arith, posed_long k t.gates p.back p.rotation p.flips, c.loop-place-test.true, c.size-place-end.ensures.is) in
    let room : c.loop-place.place < 8 = omega (arith, c.loop-place-test.true, c.size-place-end.ensures.few) in
    ap placed_of c.push.ensures.leaves
    ∙ filled_next (λ (m : Member). at_position m.position m.gate) 8 (contents c.loop-place.members) c.pose_member.result whole c.loop-place.place blank room inside c.loop-place.invariant (c.pose_member.ensures blank)

pub returns : goal.returns
returns g c =
    let k = g.K.GateKind.means in
    let t = template_of c.args.template.now in
    let p = c.args.pose in
    let whole = posed k t p.back p.rotation p.flips in
    c.loop-place.invariant ∙ take_all c.loop-place.place whole (omega (arith, posed_long k t.gates p.back p.rotation p.flips, c.loop-place-test.false, c.size-place-end.ensures.is))
