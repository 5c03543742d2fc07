use Rattle.std.proofs.Common.{ℕ, ◌+◌, ◌≤◌, length, refl, sym, ap, ◌∙◌, ap₂, arith}
use Rattle.stores.specs.Stores.{answer, after, insert_outcome}
use Rattle.stores.specs.Mounts.{window, windowed, start_in, size_in}
use Rattle.stores.proofs.Windows.{window_long, window_inserted, window_room}
use Rattle.stores.proofs.Outcomes.{place_before_told, insert_told, insert_ok, insert_refused}
use Rattle.stores.proofs.window.WindowStore.insert.Goals as goal

pub returns-in_err-insert-clause-leaves : goal.returns-in_err-insert-clause-leaves
returns-in_err-insert-clause-leaves g c =
    let k = g.S.Kind.GateKind.means in
    let x = c.args.self.now in
    let m = g.S.Store.means x.below in
    let s = start_in m x.start in
    let n = size_in m x.start x.size in
    let p = c.args.place in
    let fits : s + n ≤ length m.gates = omega arith in
    let long = window_long m s n 0 fits in
    let y = c.args.gate in
    let V = window x.start x.size in
    let le : p ≤ n = omega (arith, place_before_told p c.count-size.result c.in_ok-check_place_before.ensures, c.count-size.ensures, long) in
    let first = c.first-first.ensures in
    let told = c.in_err-insert.ensures.answers ∙ ap (λ (i : ℕ). answer (insert_outcome k m (i + p) y)) first in
    ap V c.insert.ensures.leaves
    ∙ ap (λ (i : ℕ). V (after m (insert_outcome k m (i + p) y))) first
    ∙ insert_refused k V m p (s + p) y refl _ (omega (arith, le, long)) (omega (arith, le, fits)) (window_room m s n 0 fits) told

pub returns-clause-leaves : goal.returns-clause-leaves
returns-clause-leaves g c =
    let k = g.S.Kind.GateKind.means in
    let x = c.args.self.now in
    let m = g.S.Store.means x.below in
    let s = start_in m x.start in
    let n = size_in m x.start x.size in
    let p = c.args.place in
    let fits : s + n ≤ length m.gates = omega arith in
    let long = window_long m s n 0 fits in
    let y = c.args.gate in
    let le : p ≤ n = omega (arith, place_before_told p c.count-size.result c.in_ok-check_place_before.ensures, c.count-size.ensures, long) in
    let there : s + p ≤ length m.gates = omega (arith, le, fits) in
    let first = c.first-first.ensures in
    let told = insert_told k m (s + p) y there (c.in_ok-insert.ensures.answers ∙ ap (λ (i : ℕ). answer (insert_outcome k m (i + p) y)) first) in
    let below = insert_ok k m (s + p) y told.0 there told.1 in
    let above = insert_ok k (windowed s n m) p y told.0 (omega (arith, le, long)) (omega (arith, told.1, long, fits)) in
    ap₂ (λ (u v : ℕ). window u (v + 1) (g.S.Store.means c.insert.new.self)) first (c.count-size.ensures ∙ long)
    ∙ ap (window s (n + 1)) (c.insert.ensures.leaves ∙ ap (λ (i : ℕ). after m (insert_outcome k m (i + p) y)) first ∙ ap (after m) below)
    ∙ window_inserted m s n p fits y le
    ∙ sym (ap (after (windowed s n m)) above)
