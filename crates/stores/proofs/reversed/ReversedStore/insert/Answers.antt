use Rattle.std.proofs.Common.{◌≡◌, ℕ, ◌-◌, ◌≤◌, ltb, length, sym, ap, ◌∙◌, subst, arith}
use Rattle.gates.specs.Kinds.{Formed}
use Rattle.stores.specs.Stores.{insert_outcome, after, with_gates}
use Rattle.stores.specs.Mounts.{reversed}
use Rattle.stores.specs.MountFacts.{backward_long}
use Rattle.stores.proofs.Backward.{inserted_backward}
use Rattle.stores.proofs.Outcomes.{place_before_told, formed_told, insert_through}
use Rattle.stores.proofs.reversed.ReversedStore.insert.Goals as goal

pub returns-clause-leaves : goal.returns-clause-leaves
returns-clause-leaves g c =
    let k = g.S.Kind.GateKind.means in
    let laws = g.met.S.Kind.GateKind.lawful in
    let m = g.S.Store.means c.args.self.now.below in
    let p = c.args.place in
    let long = backward_long k m.gates in
    let y = c.args.gate in
    let z = c.inverse.result in
    let formed = formed_told k c.lines.result m.lines y c.lines.ensures c.in_ok-check_gate.ensures in
    let below-formed : Formed k m.lines z = subst (Formed k m.lines) (sym c.inverse.ensures) (laws.inverse_formed m.lines y formed) in
    let twice : k.inverse z ≡ y = ap k.inverse c.inverse.ensures ∙ laws.inverse_twice m.lines y formed in
    let le : p ≤ length m.gates = omega (arith, place_before_told p c.count-count.result c.in_ok-check_place_before.ensures, c.count-count.ensures) in
    let both =
    insert_through k (reversed k) m p (length m.gates - p) y z formed below-formed (omega (arith, le, long)) (omega (arith, le)) (ap (λ (n : ℕ). ltb n m.capacity) (sym long))
    (ap (with_gates m) (inserted_backward k m.gates p y z le twice)) in
    ap (reversed k) c.insert.ensures.leaves
    ∙ ap (λ (n : ℕ). reversed k (after m (insert_outcome k m (n - p) z))) c.count-count.ensures
    ∙ both.1
