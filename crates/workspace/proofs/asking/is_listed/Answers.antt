use Rattle.std.proofs.Common.{rules}
use Rattle.workspace.proofs.Asks.{listed_is}
use Rattle.workspace.proofs.asking.is_listed.Goals as goal

pub returns : goal.returns
returns c = listed_is c.args.groups.now c.args.place c.args.position c.get.result c.is_some_and.result _ c.get.ensures.lookup (λ x q. search rules) c.is_some_and.ensures
