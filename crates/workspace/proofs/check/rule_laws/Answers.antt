use Rattle.workspace.proofs.Deciding as deciding
use Rattle.workspace.proofs.check.rule_laws.Goals as goal

pub returns : goal.returns
returns g c = deciding.rule_laws_lem g.K.GateKind.means g.met.K.GateKind.lawful
