use Rattle.std.proofs.Common.{◌≡◌, ℕ, ◌<◌, List, length, sym, ap, ◌∙◌, subst, arith}
use lib.ListN.{length-map}
use Rattle.fixed_list.specs.Lists.{contents}
use Rattle.gates.specs.Kinds.{Formed}
use Rattle.stores.specs.Stores.{with_gates}
use Rattle.stores.specs.Mounts.{shown_gate, renamed_view}
use Rattle.stores.proofs.Rearranging.{written_back, set_map}
use Rattle.stores.proofs.Outcomes.{place_told, formed_told, overwrite_through}
use Rattle.stores.proofs.renamed.RenamedStore.overwrite.Goals as goal

pub returns : goal.returns
returns g c =
    let k = g.S.Kind.GateKind.means in
    let s = c.args.self.now in
    let m = g.S.Store.means s.below in
    let new = contents s.table.new in
    let V = renamed_view k new in
    let f = shown_gate k new m.lines in
    let p = c.args.place in
    let long = length-map m.gates f in
    let laws = g.met.S.Kind.GateKind.lawful in
    let y = c.args.gate in
    let z = c.through-written.result in
    let formed = formed_told k c.lines.result m.lines y c.lines.ensures c.in_ok-check_gate.ensures in
    let back = written_back laws new (contents s.table.old) s.table.sound s.table.inverse m.lines y formed in
    let is = c.through-written.ensures ∙ ap (λ (t : List ℕ). shown_gate k t m.lines y) c.old_lines.ensures in
    let below-formed : Formed k m.lines z = subst (Formed k m.lines) (sym is) back.0 in
    let same : f z ≡ y = ap f is ∙ back.1 in
    let lt : p < length m.gates = omega (arith, place_told p c.count.result c.in_ok-check_place.ensures, c.count.ensures) in
    let both = overwrite_through k V m p p y z formed below-formed (omega (arith, lt, long)) lt (ap (with_gates m) (set_map f m.gates p y z same)) in
    record { answers = c.overwrite.ensures.answers ∙ both.0; leaves = ap V c.overwrite.ensures.leaves ∙ both.1 }
