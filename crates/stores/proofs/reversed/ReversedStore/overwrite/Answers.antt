use Rattle.std.proofs.Common.{◌≡◌, ℕ, ◌-◌, ◌<◌, length, sym, ap, ◌∙◌, subst, arith}
use Rattle.gates.specs.Controls.{gate}
use Rattle.gates.specs.Kinds.{Formed}
use Rattle.stores.specs.Stores.{overwrite_outcome, after, with_gates}
use Rattle.stores.specs.Mounts.{reversed}
use Rattle.stores.specs.MountFacts.{backward_long}
use Rattle.stores.proofs.Backward.{set_backward}
use Rattle.stores.proofs.Outcomes.{place_told, formed_told, overwrite_through}
use Rattle.stores.proofs.reversed.ReversedStore.overwrite.Goals as goal

pub returns-clause-leaves : goal.returns-clause-leaves
returns-clause-leaves g c =
    let k = g.S.Kind.GateKind.means in
    let laws = g.met.S.Kind.GateKind.lawful in
    let m = g.S.Store.means c.args.self.now.below in
    let p = c.args.place in
    let y = c.args.gate in
    let z = c.inverse.result in
    let formed = formed_told k c.lines.result m.lines y c.lines.ensures c.in_ok-check_gate.ensures in
    let below-formed : Formed k m.lines z = subst (Formed k m.lines) (sym c.inverse.ensures) (laws.inverse_formed m.lines y formed) in
    let twice : k.inverse z ≡ y = ap k.inverse c.inverse.ensures ∙ laws.inverse_twice m.lines y formed in
    let lt : p < length m.gates = omega (arith, place_told p c.count-count.result c.in_ok-check_place.ensures, c.count-count.ensures) in
    let q = length m.gates - 1 - p in
    let both =
    overwrite_through k (reversed k) m p q y z formed below-formed (omega (arith, lt, backward_long k m.gates)) (omega (arith, lt))
    (ap (with_gates m) (set_backward k m.gates p (gate 0 0 0 0) lt y z twice)) in
    ap (reversed k) c.overwrite.ensures.leaves
    ∙ ap (λ (n : ℕ). reversed k (after m (overwrite_outcome k m (n - 1 - p) z))) c.count-count.ensures
    ∙ both.1
