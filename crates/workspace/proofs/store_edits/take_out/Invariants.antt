use Rattle.std.proofs.Common.{◌≡◌, ℕ, ◌+◌, ◌-◌, ◌^◌, List, ◌++◌, min, map}
use Rattle.std.specs.Iterator.Adapters.{rev_source}
use Rattle.std.specs.Slice.Iter.{iter_rest}
use Rattle.stores.specs.Stores.{with_gates}
use Rattle.workspace.specs.Edits.{without}
use Rattle.workspace.proofs.store_edits.take_out.Given as goal

-- the gates at the distances that are behind are out
abbrev pub invariant-loop-distance : goal.invariant-loop-distance
invariant-loop-distance g l =
    let m = g.S.Store.means l.initial.store in
    (behind : List ℕ)
    × (l.later ≡ iter_rest (rev_source l.distance-iterator) ++ behind)
    × (g.S.Store.means l.store ≡ with_gates m (without m.gates (map (λ d. min (l.first + d) (2 ^ 64 - 1)) behind)))
