use Rattle.workspace.proofs.Stepping.{Reached}
use Rattle.workspace.proofs.restoring.run_chosen.Given as goal

abbrev pub invariant-loop-position : goal.invariant-loop-position
invariant-loop-position g l = Reached g.K.GateKind.means l.gates l.chosen l.state l.position l.reached
