use Rattle.std.proofs.Common.{◌≡◌, map, take}
use Rattle.fixed_list.specs.Lists.{contents}
use Rattle.workspace.specs.Matching.{posed}
use Rattle.workspace.specs.Notes.{members_in, open_reach}
use Rattle.workspace.specs.Proposals.{template_of}
use Rattle.workspace.proofs.noting.posed_note.Given as goal

-- the images so far are of the first of the posed gates, and each can stand where it can at first
abbrev pub invariant-loop-place : goal.invariant-loop-place
invariant-loop-place g l = record {
  members : members_in l.images ≡ take l.place (posed g.K.GateKind.means (template_of l.template) l.pose.back l.pose.rotation l.pose.flips);
  reached : map (λ m. m.reached) (contents l.images) ≡ take l.place open_reach;
}
