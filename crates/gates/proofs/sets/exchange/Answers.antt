use Rattle.std.proofs.Common.{◌^◌, ◌<◌, arith}
use Rattle.gates.specs.Lines.{width}
use Rattle.gates.proofs.Masks.{chosen_exchanged}
use Rattle.gates.proofs.sets.exchange.Goals as goal

pub returns : goal.returns
returns c =
    let lf : c.args.chosen < 2 ^ width = omega arith in
    let ls : c.args.set < 2 ^ width = omega arith in
    let lo : c.args.other < 2 ^ width = omega arith in
    chosen_exchanged c.args.chosen c.args.set c.args.other lf ls lo
