use Rattle.workspace.proofs.DecidingTurns.{decides_turn}
use Rattle.workspace.proofs.Replacing as replacing
use Rattle.workspace.proofs.turn.turn_laws.Goals as goal

pub returns : goal.returns
returns g c = record { turning = replacing.turning g.K.GateKind.means g.met.K.GateKind.lawful; decided = decides_turn g.K.GateKind.means }
