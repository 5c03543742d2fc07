use Rattle.std.proofs.Common.{ℕ, get_or, sym, subst}
use Rattle.fixed_list.specs.Lists.{contents}
use Rattle.workspace.specs.Starts.{HasRoles, no_roles}
use Rattle.workspace.proofs.start.Start.roles_at.Goals as goal

pub returns : goal.returns
returns g c =
    let s = c.args.self.now in
    subst (λ (y : ℕ). HasRoles g.K.GateKind.means (contents s.frame) c.args.x.now.number (get_or s.roles y no_roles)) (sym c.from.ensures) (s.known.roles c.args.x.now.number c.args.x.now.below)
