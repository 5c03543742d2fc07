use Rattle.std.proofs.Common.{List, subst, arith}
use Rattle.gates.specs.declared.gate.Gate.{Gate}
use Rattle.workspace.specs.Starts.{Known}
use Rattle.workspace.proofs.start.start_at.Goals as goal

pub invariant_of-result : goal.invariant_of-result
invariant_of-result g c =
    let known : Known g.S.Kind.GateKind.means c.as_slice-gates.result.now c.all_blockers.result c.all_roles.result =
    record { blockers = λ d l. c.all_blockers.ensures d (omega (arith, l, c.as_slice-gates.ensures.few)) l; roles = λ x l. c.all_roles.ensures x l } in
    record { known = subst (λ (gates : List Gate). Known g.S.Kind.GateKind.means gates c.all_blockers.result c.all_roles.result) c.as_slice-gates.ensures.is known }
