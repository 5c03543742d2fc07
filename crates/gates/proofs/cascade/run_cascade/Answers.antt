use Rattle.std.proofs.Common.{◌+◌, drop, sym, ap, ◌∙◌}
use Rattle.std.proofs.lemmas.List.{at_drop_more, at_drop_all}
use Rattle.gates.specs.Lines.{bit}
use Rattle.gates.specs.Controls.{gate}
use Rattle.gates.specs.Cascades.{run}
use Rattle.gates.proofs.cascade.run_cascade.Goals as goal

pub loop-gate-preserved : goal.loop-gate-preserved
loop-gate-preserved g c =
    let k = g.K.GateKind.means in
    let gates = c.args.gates.now in
    let i = c.loop-gate.gate-index in
    ap (run k (drop (i + 1) gates)) c.run-reached.ensures
    ∙ sym (at_drop_more (λ x. run k x (bit c.loop-gate.reached)) gates i (gate 0 0 0 0) c.loop-gate-test.true) ∙ c.loop-gate.invariant

pub returns : goal.returns
returns g c =
    let k = g.K.GateKind.means in
    sym (at_drop_all (λ x. run k x (bit c.loop-gate.reached)) c.args.gates.now c.loop-gate.gate-index c.loop-gate-test.false) ∙ c.loop-gate.invariant
