use Rattle.std.proofs.Common.{rules, ◌<◌}
use Rattle.workspace.specs.Starts.{HasRoles, no_roles}
use Rattle.workspace.proofs.Tables.{made}
use Rattle.workspace.proofs.role.all_roles.Goals as goal

pub returns : goal.returns
returns g c x l =
    made _ _ (λ y has. y < 32 → HasRoles g.K.GateKind.means c.args.gates.now y has) (λ y has q k. search rules) _ 32 c.from_fn.ensures.items x l no_roles l
