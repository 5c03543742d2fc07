use Rattle.std.proofs.Common.{ℕ, ap, ◌∙◌, arith}
use Rattle.search.specs.Keys.{keyed}
use Rattle.workspace.specs.Holdings.{condition_of}
use Rattle.workspace.specs.OccurrenceTests.{occurs_test}
use Rattle.workspace.proofs.matching.HoldingsProblem.occurs.Goals as goal

pub returns : goal.returns
returns g c fits =
    let h = c.args.self.now in
    let k = g.S.Kind.GateKind.means in
    let held = condition_of g.S.Store.means h in
    c.is_occurrence.ensures held.store.gates (c.as_slice.ensures.is ∙ fits.first.frame) fits.sound.sound.templates (omega (arith, c.lines.ensures, (g.S.Store.bounded h.store).few_lines))
    ∙ ap (λ (n : ℕ). occurs_test k n held.store.gates held.shelf (keyed c.args.key.now)) c.lines.ensures
