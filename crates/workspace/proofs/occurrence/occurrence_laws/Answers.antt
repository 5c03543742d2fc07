use Rattle.workspace.proofs.Occurring.{replacing_laws}
use Rattle.workspace.proofs.DecidingOccurrences.{decides_occurrences}
use Rattle.workspace.proofs.occurrence.occurrence_laws.Goals as goal

pub returns : goal.returns
returns g c = record { replacing = replacing_laws g.K.GateKind.means g.met.K.GateKind.lawful; decided = decides_occurrences g.K.GateKind.means }
