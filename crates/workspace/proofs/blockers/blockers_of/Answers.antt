use Rattle.std.proofs.Common.{rules, not, take}
use Rattle.gates.specs.Controls.{gate}
use Rattle.workspace.specs.Starts.{at_distance}
use Rattle.workspace.proofs.Starting.{before_blocks}
use Rattle.workspace.proofs.blockers.blockers_of.Goals as goal

pub returns : goal.returns
returns g c l =
    let k = g.K.GateKind.means in
    let before = take c.args.distance c.args.gates.now in
    before_blocks k c.args.gates.now c.args.distance c.in-Some.gate.now l (c.in-Some.ensures.lookup.3.1 (gate 0 0 0 0)) c.distances_where.result
    (c.distances_where.ensures (λ e. not (k.free (at_distance before e) c.in-Some.gate.now)) (λ e le b says. search rules))
