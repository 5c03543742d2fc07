use Rattle.std.proofs.Common.{◌≡◌, ◌++◌, map, take, drop}
use Rattle.gates.proofs.cascade.invert_cascade.Given as goal

-- the gates so far are inverted, the others as they were
abbrev pub invariant-loop-gate : goal.invariant-loop-gate
invariant-loop-gate g l =
    l.gates ≡ map g.K.GateKind.means.inverse (take l.gate-index l.initial.gates) ++ drop l.gate-index l.initial.gates
