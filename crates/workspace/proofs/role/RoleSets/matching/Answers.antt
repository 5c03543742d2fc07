use Rattle.std.proofs.Common.{ℕ, ap, ◌∙◌}
use mathlib.Core.Bool.{beq}
use Rattle.gates.specs.Lines.{bit}
use Rattle.workspace.proofs.Starting.{roles_agree}
use Rattle.workspace.proofs.role.RoleSets.matching.Goals as goal

pub returns : goal.returns
returns g c frame x roles =
    let has = c.args.self.now in
    roles_agree g.K.GateKind.means frame c.args.gate c.args.line x c.agreeing-positive.result c.agreeing-negative.result c.agreeing-targets.result has roles
    (λ i il. c.agreeing-positive.ensures i il ∙ ap (beq (bit has.positive i)) c.has_line.ensures)
    (λ i il. c.agreeing-negative.ensures i il ∙ ap (beq (bit has.negative i)) c.has_line-2.ensures)
    (λ i il. c.agreeing-targets.ensures i il ∙ ap (beq (bit has.targets i)) (c.has_line-3.ensures ∙ ap (λ (set : ℕ). bit set c.args.line) c.targets.ensures))
