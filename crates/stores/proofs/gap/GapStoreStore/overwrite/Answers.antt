use Rattle.std.proofs.Common.{ℕ, ◌<◌, length, set, sym, ap, ◌∙◌, ap₂, arith}
use Rattle.std.proofs.lemmas.List.{length-set}
use Rattle.stores.specs.Held.{gap_held}
use Rattle.stores.specs.Memory.{in_memory, around_gap}
use Rattle.stores.specs.Stores.{after}
use Rattle.stores.proofs.Outcomes.{place_told, gate_told, overwrite_ok}
use Rattle.stores.proofs.GapEdits.{around_long, write_at}
use Rattle.stores.proofs.gap.GapStoreStore.overwrite.Goals as goal

pub returns-clause-leaves : goal.returns-clause-leaves
returns-clause-leaves g c =
    let k = g.K.GateKind.means in
    let s = c.args.self.now in
    let xs = s.records.now in
    let p = c.args.place in
    let y = c.args.gate in
    let told = place_told p c.count.result c.in_ok-check_place.ensures in
    let here : p < length (around_gap xs s.front s.back) = omega (arith, told, c.count.ensures) in
    ap₂ (in_memory s.lines) (length-set xs c.record_of-record.result y)
    (ap (λ (j : ℕ). around_gap (set xs j y) s.front s.back) c.record_of-record.ensures.value
    ∙ write_at xs s.front s.back s.within p y (omega (arith, here, around_long xs s.front s.back s.within)))
    ∙ sym (ap (after (gap_held s)) (overwrite_ok k (gap_held s) p y (gate_told k s.lines y c.in_ok-check_gate.ensures) here))
