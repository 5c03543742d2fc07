use Rattle.std.proofs.Common.{◌≡◌, ℕ, length, ap, ◌∙◌}
use Rattle.stores.specs.Stores.{StoreMeaning, insert_outcome}
use Rattle.stores.specs.Stores as stores
use Rattle.workspace.specs.Shelves.{entries_of}
use Rattle.workspace.proofs.Calling.{appended}
use Rattle.workspace.proofs.workspace.Workspace.append.Goals as goal

pub returns-clause-promised : goal.returns-clause-promised
returns-clause-promised g c =
    let k = g.S.Kind.GateKind.means in
    let w = c.args.self.now.holdings in
    let m = g.S.Store.means w.store in
    let y = c.args.gate in
    let place = c.count-place.ensures in
    let now : g.S.Store.means c.insert.new.self ≡ stores.after m (insert_outcome k m (length m.gates) y) =
    c.insert.ensures.leaves ∙ ap (λ (i : ℕ). stores.after m (insert_outcome k m i y)) place in
    let told = c.insert.ensures.answers ∙ ap (λ (i : ℕ). stores.answer (insert_outcome k m i y)) place in
    appended k m (entries_of w.shelf) y g.met.S.Kind.GateKind.lawful c.insert.result (g.S.Store.means c.insert.new.self) told now
