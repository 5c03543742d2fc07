use Rattle.std.proofs.Common.{[], arith}
use Rattle.workspace.specs.Holdings.{condition_of}
use Rattle.workspace.proofs.KeyLevels.{next_of}
use Rattle.workspace.proofs.matching.HoldingsProblem.starts.Goals as goal

pub returns : goal.returns
returns g c =
    let h = c.args.self.now in
    let b = g.S.Store.bounded h.store in
    record {
      covers = λ sound v rest e. let n = next_of g.S.Kind.GateKind.means (condition_of g.S.Store.means h) [] v rest e in omega (arith, n.begun.rules.inside.0, n.is, c.count.ensures);
      few = omega (arith, b.fits, b.small, c.count.ensures);
    }
