use Rattle.stores.proofs.StoresTheorem.{store_laws_lem}
use Rattle.stores.proofs.laws.store_laws.Goals as goal

pub returns : goal.returns
returns g c = store_laws_lem g.K.GateKind.means g.met.K.GateKind.lawful
