use Rattle.std.proofs.Common.{ltb, ap, ◌∙◌}
use lib.ListN.{length-map}
use Rattle.fixed_list.specs.Lists.{contents}
use Rattle.stores.specs.Stores.{with_gates}
use Rattle.stores.specs.Mounts.{shown_gate, renamed_view}
use Rattle.stores.proofs.Rearranging.{removed_map}
use Rattle.stores.proofs.Outcomes.{remove_seen}
use Rattle.stores.proofs.renamed.RenamedStore.remove.Goals as goal

pub returns-clause-leaves : goal.returns-clause-leaves
returns-clause-leaves g c =
    let k = g.S.Kind.GateKind.means in
    let s = c.args.self.now in
    let m = g.S.Store.means s.below in
    let new = contents s.table.new in
    let V = renamed_view k new in
    let f = shown_gate k new m.lines in
    let p = c.args.place in
    ap V c.in_ok-gate.ensures.leaves ∙ remove_seen k V m p p (ap (ltb p) (length-map m.gates f)) (ap (with_gates m) (removed_map f m.gates p))
