use Rattle.std.proofs.Common.{ℕ, ◌+◌, ◌-◌, ◌^◌, ◌++◌, [], ◌∷◌, List, min, map, sym, refl, ap, ◌∙◌, append_assoc, rules}
use Rattle.std.specs.List.{remove}
use Rattle.std.specs.Iterator.Adapters.{rev_source}
use Rattle.std.specs.Slice.Iter.{iter_rest}
use Rattle.std.proofs.lemmas.List.{nil_from_length}
use Rattle.stores.specs.Stores.{StoreMeaning, with_gates, after, remove_outcome}
use Rattle.workspace.specs.Edits.{without}
use Rattle.workspace.proofs.TakingOut.{removal_leaves}
use Rattle.workspace.proofs.store_edits.take_out.Goals as goal

pub loop-distance-init : goal.loop-distance-init
loop-distance-init g c = ([], search rules, refl)

pub loop-distance-preserved : goal.loop-distance-preserved
loop-distance-preserved g c =
    let m = g.S.Store.means c.args.store.now in
    let (behind, split, was) = c.loop-distance.invariant in
    let d = c.in-Some.distance.now in
    let left = without m.gates (map (λ (d : ℕ). min (c.args.first + d) (2 ^ 64 - 1)) behind) in (
      d ∷ behind,
      split ∙ ap (λ (ahead : List ℕ). ahead ++ behind) c.in-Some.ensures.steps ∙ append_assoc (iter_rest (rev_source c.next.new.self)) (d ∷ []) behind,
      c.remove.ensures.leaves
          ∙ ap (λ (s : StoreMeaning). after s (remove_outcome s c.saturating_add.result)) was
          ∙ removal_leaves (with_gates m left) c.saturating_add.result
          ∙ ap (λ (q : ℕ). with_gates m (remove left q)) c.saturating_add.ensures,
    )

pub returns : goal.returns
returns g c =
    let m = g.S.Store.means c.args.store.now in
    let f = λ (d : ℕ). min (c.args.first + d) (2 ^ 64 - 1) in
    let (behind, split, was) = c.loop-distance.invariant in
    let all = split ∙ ap (λ (ahead : List ℕ). ahead ++ behind) (nil_from_length _ c.in-None.ensures.steps.0) in
    c.remove-2.ensures.leaves
    ∙ ap (λ (s : StoreMeaning). after s (remove_outcome s c.args.first)) (was ∙ ap (λ (ds : List ℕ). with_gates m (without m.gates (map f ds))) (sym all))
    ∙ removal_leaves (with_gates m (without m.gates (map f c.args.later.now))) c.args.first
