use Rattle.std.proofs.Common.{rules}
use Rattle.gates.specs.Lines.{bit}
use Rattle.workspace.specs.Starts.{at_distance}
use Rattle.workspace.proofs.role.roles_of.Goals as goal

pub returns : goal.returns
returns g c =
    let gate = at_distance c.args.gates.now in
    record {
      all = c.numbers_below.ensures;
      positive = c.distances_where.ensures (λ d. bit (gate d).positive c.args.line) (λ d l b says. search rules);
      negative = c.distances_where-2.ensures (λ d. bit (gate d).negative c.args.line) (λ d l b says. search rules);
      targets = c.distances_where-3.ensures (λ d. bit (g.K.GateKind.means.targets (gate d)) c.args.line) (λ d l b says. search rules);
    }
