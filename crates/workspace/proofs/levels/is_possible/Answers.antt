use Rattle.std.proofs.Common.{rules, Bool, Bor}
use Rattle.std.proofs.lemmas.Iterator.{YieldsList-from_slice}
use Rattle.std.proofs.lemmas.Iterator.Search.{all_from_yields_List}
use Rattle.fixed_list.specs.Lists.{contents}
use Rattle.workspace.specs.declared.notes.Image.{Image}
use Rattle.workspace.specs.Notes.{can_stand, some_of}
use Rattle.workspace.proofs.levels.is_possible.Goals as goal

pub returns : goal.returns
returns g c =
    let frame = contents c.args.start.now.frame in
    let test : Image → Bool = λ m. some_of m.reached (can_stand g.K.GateKind.means frame m.member.gate c.args.line c.args.x.now.number) in
    all_from_yields_List {v = λ (m : Bor Image). m.now} {s = c.iter.result} test _ _ c.all.result c.all.ensures.ran (YieldsList-from_slice c.args.images.now c.iter.ensures.rest) (λ x b q called. search (rules, c.roles_at-roles.ensures))
