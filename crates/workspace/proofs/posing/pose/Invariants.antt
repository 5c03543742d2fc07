use Rattle.std.proofs.Common.{◌≡◌, take}
use Rattle.fixed_list.specs.Lists.{contents}
use Rattle.workspace.specs.Matching.{posed}
use Rattle.workspace.specs.Posing.{placed_of}
use Rattle.workspace.specs.Proposals.{template_of}
use Rattle.workspace.proofs.posing.pose.Given as goal

-- the members so far are the first of the posed gates
abbrev pub invariant-loop-place : goal.invariant-loop-place
invariant-loop-place g l = placed_of (contents l.members) ≡ take l.place (posed g.K.GateKind.means (template_of l.template) l.pose.back l.pose.rotation l.pose.flips)
