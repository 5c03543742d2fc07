use Rattle.std.proofs.Common.{◌^◌, ◌<◌, Bool, ◌&&◌, eqb, sym, ap, ◌∙◌, arith}
use lib.Bits.{bit_and}
use Rattle.std.proofs.lemmas.Bool.{eq-eqb, ne_eqb}
use Rattle.gates.specs.Lines.{width}
use Rattle.gates.proofs.Acting.{hold_test}
use Rattle.gates.proofs.gate.Gate.do_controls_hold.Goals as goal

pub returns-then-state-self : goal.returns-then-state-self
returns-then-state-self c =
    let g = c.args.self in
    let s = c.args.state in
    let lp : g.positive < 2 ^ width = omega arith in
    let lq : g.negative < 2 ^ width = omega arith in
    sym (ap (λ (b : Bool). b && eqb (bit_and s g.negative) 0) (eq-eqb (bit_and s g.positive) g.positive c.if-state-self.true)) ∙ hold_test g.positive g.negative s lp lq

pub returns-else-state-self : goal.returns-else-state-self
returns-else-state-self c =
    let g = c.args.self in
    let s = c.args.state in
    let lp : g.positive < 2 ^ width = omega arith in
    let lq : g.negative < 2 ^ width = omega arith in
    let off = ne_eqb (bit_and s g.positive) g.positive c.if-state-self.false in
    off ∙ sym (ap (λ (b : Bool). b && eqb (bit_and s g.negative) 0) off) ∙ hold_test g.positive g.negative s lp lq
