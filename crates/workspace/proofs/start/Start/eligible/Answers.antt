use Rattle.std.proofs.Common.{rules, ◌&&◌, ltb, get_or, sym}
use Rattle.fixed_list.specs.Lists.{contents}
use Rattle.workspace.specs.Starts.{within}
use Rattle.workspace.proofs.Starting.{eligible_known}
use Rattle.workspace.proofs.start.Start.eligible.Goals as goal

pub returns : goal.returns
returns g c =
    let s = c.args.self.now in
    eligible_known g.K.GateKind.means (contents s.frame) c.len.result c.len.ensures.few (sym c.len.ensures.is) s.blockers s.roles s.known c.args.chosen c.args.after c.numbers_where.result
    (c.numbers_where.ensures (λ d. ltb c.args.after d && within (get_or s.blockers d 0) c.args.chosen) (λ d l b says. search rules))
