use Rattle.std.proofs.Common.{◌≡◌, drop}
use Rattle.gates.specs.Lines.{bit}
use Rattle.gates.specs.Cascades.{run}
use Rattle.gates.proofs.cascade.run_cascade.Given as goal

-- what is left of the cascade sends the state reached to where the whole sends the state given
abbrev pub invariant-loop-gate : goal.invariant-loop-gate
invariant-loop-gate g l = run g.K.GateKind.means (drop l.gate-index l.gates) (bit l.reached) ≡ run g.K.GateKind.means l.gates (bit l.state)
