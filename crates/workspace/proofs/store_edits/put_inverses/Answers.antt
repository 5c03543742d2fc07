use Rattle.std.proofs.Common.{◌+◌, ◌<◌, List, map, length, get_or, take, sym, ap, ◌∙◌, arith}
use Rattle.std.proofs.lemmas.List.{take-append-drop, take_all, map_more, length-map, length-take-le}
use Rattle.std.proofs.ByRecursion.{All-get_or}
use Rattle.gates.specs.declared.gate.Gate.{Gate}
use Rattle.gates.specs.Controls.{gate}
use Rattle.gates.specs.Kinds.{Formed}
use Rattle.stores.specs.Stores.{with_gates, after, insert_outcome}
use Rattle.workspace.specs.declared.posed.Member.{Member}
use Rattle.workspace.specs.Edits.{with_inverses}
use Rattle.workspace.proofs.TakingOut.{put_one}
use Rattle.workspace.proofs.store_edits.put_inverses.Goals as goal

pub loop-member-init : goal.loop-member-init
loop-member-init g c formed here room =
    let m = g.S.Store.means c.args.store.now in
    sym (ap (with_gates m) (take-append-drop c.args.place m.gates))

pub loop-member-preserved : goal.loop-member-preserved
loop-member-preserved g c formed here room =
    let k = g.S.Kind.GateKind.means in
    let m = g.S.Store.means c.args.store.now in
    let members = c.args.members.now in
    let place = c.args.place in
    let i = c.loop-member.member-index in
    let d : Member = record { position = 0; gate = gate 0 0 0 0 } in
    let x : Gate = (get_or members i d).gate in
    let s = g.S.Store.means c.loop-member.store in
    let more : List Gate = map (λ (y : Member). y.gate) (take i members) in
    let lt : i < length members = omega arith in
    let few : length m.gates + length more < m.capacity = omega (arith, length-map (take i members) (λ (y : Member). y.gate), length-take-le i members (omega arith)) in
    c.insert.ensures.leaves
    ∙ ap (λ (y : Gate). after s (insert_outcome k s place y)) c.inverse.ensures
    ∙ put_one k g.met.S.Kind.GateKind.lawful m s place more x here few (All-get_or (λ (y : Member). Formed k m.lines y.gate) members i d lt formed) (c.loop-member.invariant formed here room)
    ∙ ap (λ (gs : List Gate). with_gates m (with_inverses k m.gates place gs)) (sym (map_more (λ (y : Member). y.gate) members i d lt))

pub returns : goal.returns
returns g c formed here room =
    let m = g.S.Store.means c.args.store.now in
    let members = c.args.members.now in
    let k = g.S.Kind.GateKind.means in
    c.loop-member.invariant formed here room
    ∙ ap (λ (xs : List Member). with_gates m (with_inverses k m.gates c.args.place (map (λ x. x.gate) xs))) (take_all c.loop-member.member-index members (omega arith))
