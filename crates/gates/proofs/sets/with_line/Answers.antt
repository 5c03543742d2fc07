use Rattle.std.proofs.Common.{◌^◌, ◌<◌, arith}
use Rattle.gates.specs.Lines.{width}
use Rattle.gates.proofs.Masks.{line_added, line_beyond}
use Rattle.gates.proofs.sets.with_line.Goals as goal

pub returns-then-line-lt-WIDTH : goal.returns-then-line-lt-WIDTH
returns-then-line-lt-WIDTH c =
    let small : c.args.set < 2 ^ width = omega arith in line_added c.args.set c.args.line small c.if-line-lt-WIDTH.true

pub returns-else-line-lt-WIDTH : goal.returns-else-line-lt-WIDTH
returns-else-line-lt-WIDTH c =
    let small : c.args.set < 2 ^ width = omega arith in line_beyond c.args.set c.args.line small c.if-line-lt-WIDTH.false
