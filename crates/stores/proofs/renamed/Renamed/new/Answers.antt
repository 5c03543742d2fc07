use Rattle.std.proofs.Common.{◌≡◌, ℕ, ◌≤◌, Bool, true, false, cond, List, [], length, map, ap, ◌∙◌, ap₂, arith}
use Rattle.std.proofs.lemmas.List.{map-id}
use Rattle.std.proofs.lemmas.Bool.{eq-eqb, ne_eqb}
use Rattle.fixed_list.specs.Lists.{contents}
use Rattle.gates.specs.declared.gate.Gate.{Gate}
use Rattle.gates.specs.Kinds.{KindMeaning}
use Rattle.stores.specs.Stores.{StoreMeaning, with_gates}
use Rattle.stores.specs.Mounts.{renamed_view, renamed_by, rearranges}
use Rattle.stores.proofs.renamed.Renamed.new.Goals as goal

-- the mount that is made, by whether the table is a rearrangement
made : (k : KindMeaning) (m : StoreMeaning) (new table : List ℕ) (b : Bool) → 1 ≤ m.lines → length new ≡ cond b m.lines 0 → new ≡ cond b table []
    → renamed_view k new m ≡ cond b (renamed_by k table m) m
made k m new table true some on value =
    ap₂ (λ (x : Bool) (t : List ℕ). with_gates m (map (λ (g : Gate). cond x (k.renamed t g) g) m.gates)) (eq-eqb (length new) m.lines on) value
made k m new table false some on value =
    ap (λ (x : Bool). with_gates m (map (λ (g : Gate). cond x (k.renamed new g) g) m.gates)) (ne_eqb (length new) m.lines (λ e. omega arith))
    ∙ ap (with_gates m) (map-id m.gates)

pub returns-clause-shows : goal.returns-clause-shows
returns-clause-shows g c =
    let k = g.S.Kind.GateKind.means in
    let m = g.S.Store.means c.args.below in
    let t = c.args.table.now in
    let made_of = c.new-table.ensures in
    made k m (contents c.new-table.result.new) t (rearranges m.lines t) (g.S.Store.bounded c.args.below).some_line
    (made_of.on ∙ ap (λ (l : ℕ). cond (rearranges l t) l 0) c.lines.ensures)
    (made_of.value ∙ ap (λ (l : ℕ). cond (rearranges l t) t []) c.lines.ensures)
