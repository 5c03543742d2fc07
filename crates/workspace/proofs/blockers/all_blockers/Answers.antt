use Rattle.std.proofs.Common.{rules, ◌<◌, length}
use Rattle.workspace.specs.Starts.{IsSet, blocks}
use Rattle.workspace.proofs.Tables.{made}
use Rattle.workspace.proofs.blockers.all_blockers.Goals as goal

pub returns : goal.returns
returns g c d l inside =
    made _ _ (λ e set. e < length c.args.gates.now → IsSet set (blocks g.K.GateKind.means c.args.gates.now e)) (λ e set q k. search rules) _ 32 c.from_fn.ensures.items d l 0 inside
