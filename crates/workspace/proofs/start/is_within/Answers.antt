use Rattle.std.proofs.Common.{arith}
use Rattle.workspace.proofs.DistanceSets.{none_outside}
use Rattle.workspace.proofs.start.is_within.Goals as goal

pub returns : goal.returns
returns c = none_outside c.args.set c.args.other (omega (arith, c.ranges.set.fits)) (omega (arith, c.ranges.other.fits))
