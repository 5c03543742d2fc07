use Rattle.std.proofs.Common.{ℕ, ◌+◌, ◌<◌, ◌≤◌, List, length, drop, take, set, sym, ap, ◌∙◌, ap₂, arith}
use Rattle.std.proofs.lemmas.List.{length-take-le, length-set}
use Rattle.gates.specs.declared.gate.Gate.{Gate}
use Rattle.stores.specs.Held.{plain_held}
use Rattle.stores.specs.Memory.{in_memory}
use Rattle.stores.specs.Stores.{after}
use Rattle.stores.proofs.Outcomes.{place_before_told, room_told, gate_told, insert_ok}
use Rattle.stores.proofs.PlainEdits.{front_inserted, behind_inserted}
use Rattle.stores.proofs.plain.PlainStoreStore.insert.Goals as goal

pub returns-clause-leaves : goal.returns-clause-leaves
returns-clause-leaves g c =
    let k = g.K.GateKind.means in
    let s = c.args.self.now in
    let xs = s.records.now in
    let n = s.count in
    let p = c.args.place in
    let y = c.args.gate in
    let le : p ≤ n = place_before_told p n c.in_ok-check_place_before.ensures in
    let told = room_told n c.capacity.result c.in_ok-check_room.ensures in
    let room : n < length xs = omega (arith, told, c.capacity.ensures) in
    let few = length-take-le n xs s.within in
    let ok =
    insert_ok k (plain_held s) p y (gate_told k s.lines y c.in_ok-check_gate.ensures)
    (omega (arith, le, few)) (omega (arith, few, told, c.capacity.ensures)) in
    ap₂ (λ (z : ℕ) (r : List Gate). in_memory s.lines z r)
    (length-set c.copy_within.new.self p y ∙ c.copy_within.ensures.len)
    (ap (λ (r : List Gate). take (n + 1) (set r p y)) c.copy_within.ensures.after ∙ front_inserted xs n p y room le)
    ∙ sym (ap (after (plain_held s)) ok)

pub returns-clause-behind : goal.returns-clause-behind
returns-clause-behind g c =
    let s = c.args.self.now in
    let xs = s.records.now in
    let n = s.count in
    let p = c.args.place in
    let y = c.args.gate in
    let room : n < length xs = omega (arith, room_told n c.capacity.result c.in_ok-check_room.ensures, c.capacity.ensures) in
    ap (λ (r : List Gate). drop (n + 1) (set r p y)) c.copy_within.ensures.after
    ∙ behind_inserted xs n p y room (place_before_told p n c.in_ok-check_place_before.ensures)
