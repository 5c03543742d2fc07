use Rattle.std.proofs.Common.{rules}
use Rattle.fixed_list.specs.Lists.{contents}
use Rattle.workspace.specs.Turns.{at_position}
use Rattle.workspace.specs.declared.notes.Image.{Image}
use Rattle.workspace.proofs.Images.{zip_kept, zip_weaker}
use Rattle.workspace.proofs.notes.Note.narrow.Goals as goal

pub returns-clause-poses : goal.returns-clause-poses
returns-clause-poses g c =
    zip_kept _ (λ (m : Image). at_position m.member.position m.member.gate) (λ (m : Image). at_position m.member.position m.member.gate) (λ x y turned. search rules)
    (contents c.args.self.now.images) (contents c.turn_each.new.self) c.turn_each.ensures

pub returns-clause-reaches : goal.returns-clause-reaches
returns-clause-reaches g c =
    zip_weaker _ _ (λ x y turned. record { member = search rules; reached = search rules }) (contents c.args.self.now.images) (contents c.turn_each.new.self) c.turn_each.ensures
