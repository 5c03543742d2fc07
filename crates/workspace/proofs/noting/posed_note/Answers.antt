use Rattle.std.proofs.Common.{◌≡◌, ◌<◌, ◌≤◌, ℕ, length, map, take, get_or, refl, sym, ap, ◌∙◌, arith}
use Rattle.std.proofs.lemmas.List.{take_all, length-map, length-take}
use Rattle.fixed_list.specs.Lists.{contents}
use Rattle.workspace.specs.declared.notes.Image.{Image}
use Rattle.workspace.specs.Matching.{posed}
use Rattle.workspace.specs.Notes.{open_reach}
use Rattle.workspace.specs.Proposals.{template_of}
use Rattle.workspace.specs.Turns.{at_position}
use Rattle.workspace.proofs.Images.{filled_next, open_first, open_later}
use Rattle.workspace.proofs.Poses.{no_gate, posed_long}
use Rattle.workspace.proofs.noting.posed_note.Goals as goal
use Rattle.workspace.proofs.noting.posed_note.Goals.{then-place-eq0, else-place-eq0}

pub loop-place-preserved : goal.loop-place-preserved
loop-place-preserved g c =
    let k = g.K.GateKind.means in
    let t = template_of c.args.template.now in
    let p = c.args.pose in
    let place = c.loop-place.place in
    let images = contents c.loop-place.images in
    let image : Image = record { member = c.pose_member.result; reached = c.if-place-eq0.image } in
    let blank = at_position 0 no_gate in
    let room : place < 8 = omega (arith, c.loop-place-test.true, c.size-place-end.ensures.few) in
    let inside : place < length (posed k t p.back p.rotation p.flips) = omega (arith, posed_long k t.gates p.back p.rotation p.flips, c.loop-place-test.true, c.size-place-end.ensures.is) in
    let reached : c.if-place-eq0.image ≡ get_or open_reach place 0 =
    elim c.if-place-eq0.branch [
      | then-place-eq0 w ↦ w.image-is ∙ open_first place w.if-place-eq0.true
      | else-place-eq0 w ↦ w.image-is ∙ open_later place room w.if-place-eq0.false
    ] in
    record {
      members =
          ap (map (λ (m : Image). at_position m.member.position m.member.gate)) c.push.ensures.leaves
          ∙ filled_next (λ (m : Image). at_position m.member.position m.member.gate) 8 images image (posed k t p.back p.rotation p.flips) place blank room inside c.loop-place.invariant.members (c.pose_member.ensures blank);
      reached = ap (map (λ (m : Image). m.reached)) c.push.ensures.leaves ∙ filled_next (λ (m : Image). m.reached) 8 images image open_reach place 0 room room c.loop-place.invariant.reached reached;
    }

pub returns : goal.returns
returns g c =
    let k = g.K.GateKind.means in
    let t = template_of c.args.template.now in
    let p = c.args.pose in
    let place = c.loop-place.place in
    let images = contents c.loop-place.images in
    let room : place ≤ 8 = omega (arith, c.loop-place.auto.place-end, c.size-place-end.ensures.few) in
    let long : length images ≡ place = sym (length-map images (λ (m : Image). m.reached)) ∙ ap length c.loop-place.invariant.reached ∙ omega (arith, length-take place open_reach) in
    record {
      poses = c.loop-place.invariant.members ∙ take_all place (posed k t p.back p.rotation p.flips) (omega (arith, posed_long k t.gates p.back p.rotation p.flips, c.loop-place-test.false, c.size-place-end.ensures.is));
      reaches = c.loop-place.invariant.reached ∙ ap (λ (n : ℕ). take n open_reach) (sym long);
      chooses = refl;
    }
