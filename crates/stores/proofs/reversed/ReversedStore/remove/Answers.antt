use Rattle.std.proofs.Common.{ℕ, ◌-◌, ◌<◌, length, Ok, sym, ap, ◌∙◌, arith}
use Rattle.gates.specs.Controls.{gate}
use Rattle.stores.specs.Stores.{remove_outcome, answer, after, with_gates}
use Rattle.stores.specs.Mounts.{reversed}
use Rattle.stores.specs.MountFacts.{backward_long}
use Rattle.stores.proofs.Backward.{read_backward, removed_backward}
use Rattle.stores.proofs.Outcomes.{place_told, remove_ok, remove_told, remove_through}
use Rattle.stores.proofs.reversed.ReversedStore.remove.Goals as goal

pub returns-clause-answers : goal.returns-clause-answers
returns-clause-answers g c =
    let k = g.S.Kind.GateKind.means in
    let m = g.S.Store.means c.args.self.now.below in
    let p = c.args.place in
    let lt : p < length m.gates = omega (arith, place_told p c.count-count.result c.in_ok-check_place.ensures, c.count-count.ensures) in
    let q = length m.gates - 1 - p in
    let told = c.in_ok-gate.ensures.answers ∙ ap (λ (n : ℕ). answer (remove_outcome m (n - 1 - p))) c.count-count.ensures in
    ap Ok (c.inverse.ensures ∙ ap k.inverse (remove_told m q c.in_ok-gate.gate (omega (arith, lt)) told) ∙ sym (read_backward k m.gates p (gate 0 0 0 0) lt))
    ∙ sym (ap answer (remove_ok (reversed k m) p (omega (arith, lt, backward_long k m.gates))))

pub returns-clause-leaves : goal.returns-clause-leaves
returns-clause-leaves g c =
    let k = g.S.Kind.GateKind.means in
    let m = g.S.Store.means c.args.self.now.below in
    let p = c.args.place in
    let lt : p < length m.gates = omega (arith, place_told p c.count-count.result c.in_ok-check_place.ensures, c.count-count.ensures) in
    let q = length m.gates - 1 - p in
    ap (reversed k) c.in_ok-gate.ensures.leaves
    ∙ ap (λ (n : ℕ). reversed k (after m (remove_outcome m (n - 1 - p)))) c.count-count.ensures
    ∙ remove_through k (reversed k) m p q (omega (arith, lt, backward_long k m.gates)) (omega (arith, lt))
    (ap (with_gates m) (removed_backward k m.gates p (gate 0 0 0 0) lt))
