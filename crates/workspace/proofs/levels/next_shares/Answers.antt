use Rattle.std.proofs.Common.{rules, ◌-◌, ◌*◌, ◌&&◌, ltb, leb}
use Rattle.workspace.proofs.levels.next_shares.Goals as goal

pub returns : goal.returns
returns c = c.numbers_where.ensures (λ v. ltb c.args.size (2 * (8 - v)) && leb (8 - v) c.args.size) (λ v l b says. search rules)
