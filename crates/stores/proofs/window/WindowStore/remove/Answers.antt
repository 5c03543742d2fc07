use Rattle.std.proofs.Common.{ℕ, ◌+◌, ◌-◌, ◌<◌, ◌≤◌, length, sym, ap, ◌∙◌, ap₂, arith}
use Rattle.stores.specs.Stores.{after, remove_outcome}
use Rattle.stores.specs.Mounts.{window, windowed, start_in, size_in}
use Rattle.stores.proofs.Windows.{window_long, window_removed}
use Rattle.stores.proofs.Outcomes.{place_told, remove_ok}
use Rattle.stores.proofs.window.WindowStore.remove.Goals as goal

pub returns-clause-leaves : goal.returns-clause-leaves
returns-clause-leaves g c =
    let x = c.args.self.now in
    let m = g.S.Store.means x.below in
    let s = start_in m x.start in
    let n = size_in m x.start x.size in
    let p = c.args.place in
    let fits : s + n ≤ length m.gates = omega arith in
    let long = window_long m s n 0 fits in
    let lt : p < n = omega (arith, place_told p c.count-size.result c.in_ok-check_place.ensures, c.count-size.ensures, long) in
    let first = c.first-first.ensures in
    let below = remove_ok m (s + p) (omega (arith, lt, fits)) in
    let above = remove_ok (windowed s n m) p (omega (arith, lt, long)) in
    ap₂ (λ (u v : ℕ). window u (v - 1) (g.S.Store.means c.remove.new.self)) first (c.count-size.ensures ∙ long)
    ∙ ap (window s (n - 1)) (c.in_ok-gate.ensures.leaves ∙ ap (λ (i : ℕ). after m (remove_outcome m (i + p))) first ∙ ap (after m) below)
    ∙ window_removed m s n p fits lt
    ∙ sym (ap (after (windowed s n m)) above)
