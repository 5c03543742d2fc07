use Rattle.std.proofs.Common.{arith}
use Rattle.workspace.specs.Notes.{can_stand}
use Rattle.workspace.proofs.Standing.{some_of_it}
use Rattle.workspace.proofs.levels.can_still_stand.Goals as goal

pub returns : goal.returns
returns g c frame x roles =
    let image = c.args.image in
    some_of_it image.reached c.narrowed.result.reached (can_stand g.K.GateKind.means frame image.member.gate c.args.line x) (c.narrowed.ensures.reaches frame x roles) (omega arith)
