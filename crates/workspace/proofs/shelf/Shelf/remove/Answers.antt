use Rattle.std.proofs.Common.{map, ap, ◌∙◌}
use Rattle.fixed_list.specs.Lists.{contents}
use Rattle.workspace.specs.Shelves.{entry_of}
use Rattle.workspace.proofs.Shelving.{map-removed}
use Rattle.workspace.proofs.shelf.Shelf.remove.Goals as goal

pub returns-clause-leaves : goal.returns-clause-leaves
returns-clause-leaves c = ap (map entry_of) c.remove.ensures.leaves ∙ map-removed entry_of (contents c.args.self.now.entries) c.args.number
