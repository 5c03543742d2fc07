-- Lists of entries: what an edit leaves of what the entries stand for.
use Rattle.std.proofs.Common.{◌≡◌, ℕ, suc, ◌<◌, ◌≤◌, ltb, Bool, true, false, cond, ◌⊎◌, List, ◌++◌, map, length, get_or, set, take, drop, sym, refl, ap, ap₂, ◌∙◌, inl, inr, arith}
use Rattle.std.specs.Fn.{FnOnceReturnsAtMut}
use Rattle.std.specs.List.{remove}
use Rattle.std.proofs.lemmas.Bool.{cases_lt}
use Rattle.std.proofs.lemmas.List.{length-map, map-set, map-append, take-map, drop-map, set_past, get_or-map}
use denote.Param.Members.{Once}
use denote.Ref.{MutBor}
use Rattle.fixed_list.specs.Lists.{Changed, removed}

module _ {X Y : Type 0} (f : X → Y) (xs : List X) (i : ℕ) where
  map-remove : map f (remove xs i) ≡ remove (map f xs) i
  map-remove = map-append f (take i xs) (drop (suc i) xs) ∙ sym (ap₂ ◌++◌ (take-map f i xs) (drop-map f (suc i) xs))

  -- an item taken out, where there is one
  pub map-removed : map f (removed xs i) ≡ removed (map f xs) i
  map-removed =
      at (ltb i (length xs)) ∙ ap (λ (n : ℕ). cond (ltb i n) (remove (map f xs) i) (map f xs)) (sym (length-map xs f))
    where
      at : (b : Bool) → map f (cond b (remove xs i) xs) ≡ cond b (remove (map f xs) i) (map f xs)
      at true = map-remove
      at false = refl

  -- an item changed by a closure, where there is one
  pub map-changed : {F : Type 0} (g : Once F (MutBor X × Unit {0}) (Unit {0} × (MutBor X × Unit {0}))) (change : F) (turn : Y → Y) (ys : List X) (d : Y)
      → ((x x' : X) → FnOnceReturnsAtMut g change x tt x' → f x' ≡ turn (f x))
      → (i < length xs → Changed g change xs i ys) → (length xs ≤ i → ys ≡ xs)
      → map f ys ≡ set (map f xs) i (turn (get_or (map f xs) i d))
  map-changed g change turn ys d turns there beyond = at (cases_lt i (length xs))
    where
      at : (i < length xs) ⊎ (length xs ≤ i) → map f ys ≡ set (map f xs) i (turn (get_or (map f xs) i d))
      at (inl lt) =
          let ch = there lt in
          ap (map f) ch.is
          ∙ map-set f xs i ch.item'
          ∙ ap (set (map f xs) i) (turns ch.item ch.item' ch.turned ∙ ap turn (sym (get_or-map f xs i ch.item d lt ∙ ap f ch.was)))
      at (inr le) = ap (map f) (beyond le) ∙ sym (set_past (map f xs) i _ (omega (arith, length-map xs f)))
