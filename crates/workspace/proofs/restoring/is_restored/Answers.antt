use Rattle.std.proofs.Common.{arith}
use Rattle.gates.specs.Lines.{bit}
use Rattle.gates.specs.Cascades.{run, picked}
use Rattle.workspace.proofs.Stepping.{agree_tested}
use Rattle.workspace.proofs.restoring.is_restored.Goals as goal

pub returns : goal.returns
returns g c =
    agree_tested c.run_chosen.result c.args.state (run g.K.GateKind.means (picked (bit c.args.chosen) c.args.gates.now) (bit c.args.state)) c.run_chosen.type_inv (omega arith) c.run_chosen.ensures
