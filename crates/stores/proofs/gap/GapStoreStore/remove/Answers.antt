use Rattle.std.proofs.Common.{◌≡◌, ℕ, suc, ◌+◌, ◌-◌, ◌≤◌, List, length, set, sym, ap, ◌∙◌, ap₂, arith}
use Rattle.std.specs.List.{remove}
use Rattle.std.proofs.lemmas.List.{length-set}
use Rattle.gates.specs.declared.gate.Gate.{Gate}
use Rattle.gates.specs.Controls.{gate}
use Rattle.stores.specs.Held.{gap_held}
use Rattle.stores.specs.Stores.{StoreMeaning, after}
use Rattle.stores.specs.Memory.{in_memory, around_gap}
use Rattle.stores.proofs.Outcomes.{read_told, remove_ok}
use Rattle.stores.proofs.GapEdits.{around_long, gap_removed, gap_cleared}
use Rattle.stores.proofs.gap.GapStoreStore.remove.Goals as goal

pub returns-clause-leaves : goal.returns-clause-leaves
returns-clause-leaves g c =
    let s = c.args.self.now in
    let xs = s.records.now in
    let p = c.args.place in
    let here = (read_told (gap_held s) p c.in_ok-gate.gate c.in_ok-gate.ensures).0 in
    let long = around_long xs s.front s.back s.within in
    let t = c.move_gap-self.new.self in
    let ys = t.records.now in
    let b = t.back - 1 in
    let keeps = c.move_gap-self.ensures.keeps in
    let front = c.move_gap-self.ensures.front in
    let is : suc b ≡ t.back = omega (arith, here, long, keeps.sum, front) in
    let fits : p + suc b ≤ length ys = omega (arith, is, t.within, front) in
    let zs = set ys (length ys - t.back) (gate 0 0 0 0) in
    let list : around_gap ys p t.back ≡ around_gap xs s.front s.back = ap (λ (f : ℕ). around_gap ys f t.back) (sym front) ∙ ap (λ (x : StoreMeaning). x.gates) keeps.same in
    ap₂ (λ (l f : ℕ). in_memory l (length zs) (around_gap zs f b)) keeps.on front
    ∙ ap₂ (in_memory s.lines) (length-set ys (length ys - t.back) (gate 0 0 0 0) ∙ keeps.long)
    (ap (λ (n : ℕ). around_gap (set ys (length ys - n) (gate 0 0 0 0)) p b) (sym is)
    ∙ gap_cleared ys p b (gate 0 0 0 0) fits
    ∙ gap_removed ys p b fits
    ∙ ap (λ (n : ℕ). remove (around_gap ys p n) p) is
    ∙ ap (λ (r : List Gate). remove r p) list)
    ∙ sym (ap (after (gap_held s)) (remove_ok (gap_held s) p here))
