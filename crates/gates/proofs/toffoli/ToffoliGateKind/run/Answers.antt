use Rattle.std.proofs.Common.{◌≡◌, Bool, true, ◌&&◌, eqb, sym, ap, ◌∙◌}
use mathlib.Core.Path.{fun_ext}
use mathlib.Core.Bool.{and-true}
use Rattle.std.proofs.lemmas.Bool.{lt-ltb, and_from}
use Rattle.gates.specs.Lines.{width, bit, inverted_if}
use Rattle.gates.specs.Toffoli.{fires}
use Rattle.gates.proofs.Acting.{one_inverted}
use Rattle.gates.proofs.toffoli.ToffoliGateKind.run.Goals as goal

pub returns-then-do_controls_hold : goal.returns-then-do_controls_hold
returns-then-do_controls_hold c = fun_ext λ i.
    let g = c.args.gate in
    let s = c.args.state in
    let on : fires g (bit s) ≡ true = and_from _ _ (lt-ltb g.a width c.if-gate-lt-WIDTH.true) (sym c.if-do_controls_hold.ensures) in
    one_inverted s g.a i c.if-gate-lt-WIDTH.true
    ∙ ap (λ (b : Bool). inverted_if b (bit s i)) (sym (ap (λ (b : Bool). eqb i g.a && b) on ∙ and-true (eqb i g.a)))
