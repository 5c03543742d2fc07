use Rattle.std.proofs.Common.{◌≡◌, ◌+◌, ◌≤◌, map, length, take}
use Rattle.std.specs.List.{AllByRecursion}
use Rattle.gates.specs.Kinds.{Formed}
use Rattle.stores.specs.Stores.{with_gates}
use Rattle.workspace.specs.Edits.{with_inverses}
use Rattle.workspace.proofs.store_edits.put_inverses.Given as goal

abbrev pub invariant-loop-member : goal.invariant-loop-member
invariant-loop-member g l =
    let m = g.S.Store.means l.initial.store in
    AllByRecursion (λ x. Formed g.S.Kind.GateKind.means m.lines x.gate) l.members
    → l.place ≤ length m.gates
    → length m.gates + length l.members ≤ m.capacity
    → g.S.Store.means l.store ≡ with_gates m (with_inverses g.S.Kind.GateKind.means m.gates l.place (map (λ x. x.gate) (take l.member-index l.members)))
