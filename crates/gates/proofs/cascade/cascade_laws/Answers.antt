use Rattle.gates.proofs.CascadesTheorem.{cascade_laws_lem}
use Rattle.gates.proofs.cascade.cascade_laws.Goals as goal

pub returns : goal.returns
returns g c = cascade_laws_lem g.K.GateKind.means g.met.K.GateKind.lawful
