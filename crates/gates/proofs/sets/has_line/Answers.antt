use Rattle.std.proofs.Common.{◌^◌, ◌<◌, sym, ◌∙◌, arith}
use Rattle.std.proofs.lemmas.Bool.{le-ltb}
use Rattle.gates.specs.Lines.{width}
use Rattle.gates.proofs.Masks.{test_bit}
use Rattle.gates.specs.Members.{bit_above}
use Rattle.gates.proofs.sets.has_line.Goals as goal

pub returns-then-line-lt-WIDTH : goal.returns-then-line-lt-WIDTH
returns-then-line-lt-WIDTH c = test_bit c.args.set c.args.line

pub returns-else-line-lt-WIDTH : goal.returns-else-line-lt-WIDTH
returns-else-line-lt-WIDTH c =
    let small : c.args.set < 2 ^ width = omega arith in
    le-ltb c.args.line width c.if-line-lt-WIDTH.false ∙ sym (bit_above c.args.set width c.args.line small c.if-line-lt-WIDTH.false)
