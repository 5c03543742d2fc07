use Rattle.std.proofs.Common.{ap, rules}
use Rattle.fixed_list.specs.Lists.{contents}
use Rattle.workspace.specs.Conditions.{counted_once, no_entry}
use Rattle.workspace.specs.Shelves.{entry_of}
use Rattle.workspace.proofs.Shelving.{map-changed}
use Rattle.workspace.proofs.shelf.Shelf.count_one.Goals as goal

pub returns : goal.returns
returns c =
    map-changed entry_of (contents c.args.self.now.entries) c.args.number _ _ counted_once (contents c.change.new.self) no_entry (λ x x' t. search rules) c.change.ensures.there
    (λ le. ap contents (c.change.ensures.beyond le))
