use Rattle.std.proofs.Common.{◌≡◌, true, take}
use Rattle.std.specs.List.{list_all}
use Rattle.workspace.proofs.rules.check_gates.Given as goal

-- each gate so far is well formed
abbrev pub invariant-loop-gate : goal.invariant-loop-gate
invariant-loop-gate g l = list_all (g.K.GateKind.means.form l.proposal.lines) (take l.gate-index l.proposal.gates.now) ≡ true
