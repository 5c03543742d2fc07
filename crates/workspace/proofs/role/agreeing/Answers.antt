use Rattle.workspace.proofs.DistanceSets.{agree_yes, agree_no}
use Rattle.std.proofs.Common.{arith}
use Rattle.workspace.proofs.role.agreeing.Goals as goal

pub returns-then-wanted : goal.returns-then-wanted
returns-then-wanted c = agree_yes c.args.set c.args.wanted c.if-wanted.true

pub returns-else-wanted : goal.returns-else-wanted
returns-else-wanted c = agree_no c.args.set c.args.wanted (omega (arith, c.ranges.set.fits)) c.if-wanted.false
