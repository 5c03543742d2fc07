use Rattle.std.proofs.Common.{◌^◌, ◌<◌, arith}
use Rattle.gates.specs.Lines.{width}
use Rattle.gates.proofs.Masks.{none_common}
use Rattle.gates.proofs.sets.are_apart.Goals as goal

pub returns : goal.returns
returns c = let small : c.args.left < 2 ^ width = omega arith in none_common c.args.left c.args.right small
