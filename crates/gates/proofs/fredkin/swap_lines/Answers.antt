use Rattle.std.proofs.Common.{sym, ◌∙◌}
use Rattle.gates.proofs.Acting.{swapped_same, swapped_other}
use Rattle.gates.specs.States.{beq_same, beq_other}
use Rattle.gates.proofs.fredkin.swap_lines.Goals as goal

pub returns-then-has_line : goal.returns-then-has_line
returns-then-has_line c =
    swapped_same c.args.state c.args.a c.args.b
    (sym c.has_line.ensures ∙ beq_same c.has_line.result c.has_line-2.result c.if-has_line.true ∙ c.has_line-2.ensures)

pub returns-else-has_line : goal.returns-else-has_line
returns-else-has_line c =
    swapped_other c.args.state c.args.a c.args.b c.requires.0 c.requires.1
    (λ e. beq_other c.has_line.result c.has_line-2.result c.if-has_line.false (c.has_line.ensures ∙ e ∙ sym c.has_line-2.ensures))
