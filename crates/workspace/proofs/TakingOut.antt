-- Gates taken out of a store, and inverses of gates put in.
use Rattle.std.proofs.Common.{◌≡◌, ℕ, suc, ◌+◌, ◌<◌, ◌≤◌, true, false, ltb, List, [], ◌∷◌, ◌++◌, map, reverse, length, take, drop, Ok, sym, refl, ap, ◌∙◌, ap₂, arith}
use Rattle.std.specs.List.{insert, remove}
use Rattle.std.proofs.lemmas.List.{append-nil, take_all, drop_all, take_at, drop_at, length-append, length-take-le, length-drop, length-map, length-reverse, reverse-append}
use Rattle.std.proofs.lemmas.Bool.{ltb-false, lt-ltb, le-leb}
use Rattle.gates.specs.declared.gate.Gate.{Gate}
use Rattle.gates.specs.Kinds.{KindMeaning, KindLaws, Formed}
use Rattle.gates.specs.Cascades.{backward}
use Rattle.stores.specs.declared.refusal.StoreRefusal.TheVariants.{NoSuchPlace}
use Rattle.stores.specs.Stores.{StoreMeaning, with_gates, after, provided, at, remove_outcome, insert_outcome}
use Rattle.stores.proofs.Outcomes.{provided_true}
use Rattle.workspace.specs.Edits.{with_inverses}

-- nothing is removed behind the end
removed_past : {X : Type 0} (xs : List X) (i : ℕ) → length xs ≤ i → remove xs i ≡ xs
removed_past {X} xs i le = ap₂ (λ (u v : List X). u ++ v) (take_all i xs le) (drop_all (suc i) xs (omega arith)) ∙ append-nil xs

-- a removal, refused or not, leaves the list without what stands there
pub removal_leaves : (m : StoreMeaning) (q : ℕ) → after m (remove_outcome m q) ≡ with_gates m (remove m.gates q)
removal_leaves m q =
    (elim (ltb q (length m.gates)) as (λ b. ltb q (length m.gates) ≡ b → after m (provided b NoSuchPlace (Ok (at m q, with_gates m (remove m.gates q)))) ≡ with_gates m (remove m.gates q))
    [ true ↦ λ e. refl | false ↦ λ e. ap (with_gates m) (sym (removed_past m.gates q (ltb-false q (length m.gates) e))) ]) refl

-- one more inverse comes before those that were put in before
pub one_more : (k : KindMeaning) (gates : List Gate) (place : ℕ) (more : List Gate) (g : Gate) → place ≤ length gates
    → insert (with_inverses k gates place more) place (k.inverse g) ≡ with_inverses k gates place (more ++ g ∷ [])
one_more k gates place more g le =
    let front = take place gates in
    let rest = backward k more ++ drop place gates in
    let long : length front ≡ place = length-take-le place gates le in
    ap₂ (λ (u v : List Gate). u ++ k.inverse g ∷ v) (take_at front rest place long) (drop_at front rest place long)
    ∙ ap (λ (b : List Gate). front ++ (b ++ drop place gates)) (sym (ap (map k.inverse) (reverse-append more (g ∷ []))))

-- how long the list is then
pub inverses_long : (k : KindMeaning) (gates : List Gate) (place : ℕ) (more : List Gate) → place ≤ length gates → length (with_inverses k gates place more) ≡ length gates + length more
inverses_long k gates place more le =
    omega (
      arith,
      length-append (take place gates) (backward k more ++ drop place gates),
      length-append (backward k more) (drop place gates),
      length-take-le place gates le,
      length-drop place gates,
      length-map (reverse more) k.inverse,
      length-reverse more,
    )

-- an insert that is not refused
pub insertion_leaves : (k : KindMeaning) (m : StoreMeaning) (q : ℕ) (g : Gate) → q ≤ length m.gates → Formed k m.lines g → length m.gates < m.capacity
    → after m (insert_outcome k m q g) ≡ with_gates m (insert m.gates q g)
insertion_leaves k m q g here formed room =
    ap (after m) (provided_true _ _ _ (le-leb q (length m.gates) here) ∙ provided_true _ _ _ formed ∙ provided_true _ _ _ (lt-ltb (length m.gates) m.capacity room))

-- one more inverse put into a store
pub put_one : (k : KindMeaning) → KindLaws k → (m s : StoreMeaning) (place : ℕ) (more : List Gate) (g : Gate)
    → place ≤ length m.gates → length m.gates + length more < m.capacity → Formed k m.lines g
    → s ≡ with_gates m (with_inverses k m.gates place more)
    → after s (insert_outcome k s place (k.inverse g)) ≡ with_gates m (with_inverses k m.gates place (more ++ g ∷ []))
put_one k laws m s place more g here room formed is =
    let now = with_gates m (with_inverses k m.gates place more) in
    let long = inverses_long k m.gates place more here in
    ap (λ (x : StoreMeaning). after x (insert_outcome k x place (k.inverse g))) is
    ∙ insertion_leaves k now place (k.inverse g) (omega (arith, long)) (laws.inverse_formed m.lines g formed) (omega (arith, long))
    ∙ ap (with_gates m) (one_more k m.gates place more g here)
