use Rattle.std.proofs.Common.{◌^◌, ◌<◌, ◌≤◌, sym, ◌∙◌, arith, pow_mono}
use Rattle.std.proofs.lemmas.Bool.{lt-ltb, le-leb}
use Rattle.gates.specs.Lines.{width}
use Rattle.gates.proofs.Masks.{shifted_out}
use Rattle.gates.proofs.sets.is_below.Goals as goal

pub returns-then-lines-ge-WIDTH : goal.returns-then-lines-ge-WIDTH
returns-then-lines-ge-WIDTH c =
    let wide : width ≤ c.args.lines = c.if-lines-ge-WIDTH.true in
    let small : c.args.set < 2 ^ width = omega arith in
    le-leb width c.args.lines wide ∙ sym (lt-ltb c.args.set (2 ^ c.args.lines) (omega (arith, pow_mono wide)))

pub returns-else-lines-ge-WIDTH : goal.returns-else-lines-ge-WIDTH
returns-else-lines-ge-WIDTH c = shifted_out c.args.set c.args.lines
