use Rattle.std.proofs.Common.{◌≡◌, ℕ, Bool, true, cond, sym, ap, ◌∙◌}
use Rattle.std.proofs.lemmas.Bool.{lt-ltb, and_from}
use Rattle.gates.specs.Lines.{State, width, bit}
use Rattle.gates.specs.Fredkin.{fires, swapped}
use Rattle.gates.proofs.fredkin.FredkinGateKind.run.Goals as goal

pub returns-then-do_controls_hold : goal.returns-then-do_controls_hold
returns-then-do_controls_hold c =
    let g = c.args.gate in
    let s = c.args.state in
    let on : fires g (bit s) ≡ true =
    and_from _ _ (and_from _ _ (lt-ltb g.a width c.if-gate-lt-WIDTH.true) (lt-ltb g.b width c.if-gate-lt-WIDTH-2.true)) (sym c.if-do_controls_hold.ensures) in
    c.swap_lines.ensures ∙ sym (ap {B = State} (λ (b : Bool) (i : ℕ). cond b (swapped g.a g.b (bit s) i) (bit s i)) on)
