use Rattle.std.proofs.Common.{◌+◌, sym, subst}
use Rattle.gates.specs.Controls.{gate}
use Rattle.workspace.proofs.Stepping.{Reached, reached_none, reached_more, reached_skip, reached_all}
use Rattle.workspace.proofs.restoring.run_chosen.Goals as goal
use Rattle.workspace.proofs.restoring.run_chosen.Goals.{then-has_position, else-has_position}

pub loop-position-init : goal.loop-position-init
loop-position-init g c = reached_none g.K.GateKind.means c.args.gates.now c.args.chosen c.args.state

pub loop-position-preserved : goal.loop-position-preserved
loop-position-preserved g c =
    let k = g.K.GateKind.means in
    let gates = c.args.gates.now in
    let chosen = c.args.chosen in
    let state = c.args.state in
    let position = c.loop-position.position in
    let reached = c.loop-position.reached in
    elim c.if-has_position.branch [
      | then-has_position w ↦
          subst (Reached k gates chosen state (position + 1)) (sym w.reached-is)
          (reached_more k gates chosen state position reached c.loop-position-test.true c.loop-position.invariant w.run-reached.result (gate 0 0 0 0) w.if-has_position.ensures w.run-reached.ensures)
      | else-has_position w ↦
          subst (Reached k gates chosen state (position + 1)) (sym w.reached-is)
          (reached_skip k gates chosen state position reached c.loop-position-test.true c.loop-position.invariant (gate 0 0 0 0) w.if-has_position.ensures)
    ]

pub returns : goal.returns
returns g c =
    reached_all g.K.GateKind.means c.args.gates.now c.args.chosen c.args.state c.loop-position.position c.loop-position.reached
    c.loop-position-test.false c.loop-position.invariant
