use Rattle.std.proofs.Common.{ℕ, ◌<◌, List, length, take, sym, ap, ◌∙◌, ap₂, arith}
use Rattle.std.proofs.lemmas.List.{length-take-le, length-set}
use Rattle.gates.specs.declared.gate.Gate.{Gate}
use Rattle.std.proofs.Math.Seq.{take-set-lt}
use Rattle.stores.specs.Held.{plain_held}
use Rattle.stores.specs.Memory.{in_memory}
use Rattle.stores.specs.Stores.{after}
use Rattle.stores.proofs.Outcomes.{place_told, gate_told, overwrite_ok}
use Rattle.stores.proofs.plain.PlainStoreStore.overwrite.Goals as goal

pub returns-clause-leaves : goal.returns-clause-leaves
returns-clause-leaves g c =
    let k = g.K.GateKind.means in
    let s = c.args.self.now in
    let xs = s.records.now in
    let p = c.args.place in
    let y = c.args.gate in
    let told = place_told p s.count c.in_ok-check_place.ensures in
    let here : p < length (take s.count xs) = omega (arith, told, length-take-le s.count xs s.within) in
    ap₂ (λ (n : ℕ) (r : List Gate). in_memory s.lines n r) (length-set xs p y) (take-set-lt s.count xs p y told)
    ∙ sym (ap (after (plain_held s)) (overwrite_ok k (plain_held s) p y (gate_told k s.lines y c.in_ok-check_gate.ensures) here))
