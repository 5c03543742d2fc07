use Rattle.std.proofs.Common.{rules, tests, ◌∙◌}
use Rattle.std.proofs.lemmas.Iterator.{YieldsList-from_slice}
use Rattle.std.proofs.lemmas.Iterator.Consumers.{YieldsList-from_enumerate}
use Rattle.std.proofs.lemmas.Iterator.Search.{all_from_yields_List}
use Rattle.gates.specs.Lines.{bit}
use Rattle.workspace.proofs.Passing.{moves_at, moves_are}
use Rattle.workspace.proofs.moving.do_move_front.Goals as goal

pub returns : goal.returns
returns g c =
    let k = g.K.GateKind.means in
    let chosen = bit c.args.chosen in
    let gates = c.args.gates.now in
    all_from_yields_List (moves_at k chosen gates) _ _ _ c.all.ensures.ran (YieldsList-from_enumerate (YieldsList-from_slice gates cc) cc) (λ x b q k. search (rules, tests))
    ∙ moves_are k chosen gates
