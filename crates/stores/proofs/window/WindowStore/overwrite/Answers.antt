use Rattle.std.proofs.Common.{ℕ, ◌+◌, ◌<◌, ◌≤◌, length, set, refl, ap, ◌∙◌, arith}
use Rattle.std.proofs.lemmas.List.{length-set}
use Rattle.stores.specs.Stores.{after, with_gates, overwrite_outcome}
use Rattle.stores.specs.Mounts.{window, start_in, size_in}
use Rattle.stores.proofs.Windows.{rewindow, window_long, window_set}
use Rattle.stores.proofs.Outcomes.{place_told, overwrite_seen}
use Rattle.stores.proofs.window.WindowStore.overwrite.Goals as goal

pub returns-clause-leaves : goal.returns-clause-leaves
returns-clause-leaves g c =
    let k = g.S.Kind.GateKind.means in
    let x = c.args.self.now in
    let m = g.S.Store.means x.below in
    let s = start_in m x.start in
    let n = size_in m x.start x.size in
    let p = c.args.place in
    let fits : s + n ≤ length m.gates = omega arith in
    let long = window_long m s n 0 fits in
    let y = c.args.gate in
    let V = window x.start x.size in
    let lt : p < n = omega (arith, place_told p c.count.result c.in_ok-check_place.ensures, c.count.ensures, long) in
    let seen =
    overwrite_seen k V m p (s + p) y refl (omega (arith, lt, long)) (omega (arith, lt, fits))
    (rewindow m (with_gates m (set m.gates (s + p) y)) x.start x.size (length-set m.gates (s + p) y) ∙ window_set m s n p fits y lt) in
    ap V c.overwrite.ensures.leaves ∙ ap (λ (i : ℕ). V (after m (overwrite_outcome k m (i + p) y))) c.first-first.ensures ∙ seen
