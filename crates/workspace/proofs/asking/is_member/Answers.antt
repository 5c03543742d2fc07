use Rattle.std.proofs.Common.{rules}
use Rattle.workspace.proofs.Asks.{member_is}
use Rattle.workspace.proofs.asking.is_member.Goals as goal

pub returns : goal.returns
returns c = member_is c.args.groups.now c.args.number c.args.position c.checked_sub.result c.is_none_or.result _ c.checked_sub.ensures (λ i q. search rules) c.is_none_or.ensures
