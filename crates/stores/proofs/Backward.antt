-- Lists backward: what an edit leaves, seen from the other end.
use Rattle.std.proofs.Common.{◌≡◌, ℕ, suc, ◌+◌, ◌-◌, ◌<◌, ◌≤◌, List, [], ◌∷◌, ◌++◌, map, reverse, length, get_or, take, drop, set, sym, refl, ap, ◌∙◌, ap₂, arith}
use mathlib.Core.List.{reverse-cons}
use Rattle.std.specs.List.{insert, remove}
use Rattle.std.proofs.lemmas.List.{append_assoc, map-append, reverse-append, take-append-drop, drop_more, take_at, drop_at, set_at, set_split, get_or-map, get_or-reverse, length-drop, length-reverse}
use Rattle.gates.specs.declared.gate.Gate.{Gate}
use Rattle.gates.specs.Kinds.{KindMeaning}
use Rattle.gates.specs.Cascades.{backward}
use Rattle.stores.specs.MountFacts.{backward_long}

-- a list around one of its elements
pub around : {X : Type 0} (xs : List X) (q : ℕ) (d : X) → q < length xs → xs ≡ take q xs ++ get_or xs q d ∷ drop (suc q) xs
around {X} xs q d lt =
    sym (take-append-drop q xs) ∙ ap (λ (r : List X). take q xs ++ r) (drop_more xs q d lt ∙ ap (λ (n : ℕ). get_or xs q d ∷ drop n xs) (let e : q + 1 ≡ suc q = omega arith in e))

-- the elements behind the first, by one step more
drop_next : {X : Type 0} (xs : List X) (x : X) (ys : List X) → drop (suc (length xs)) (xs ++ x ∷ ys) ≡ ys
drop_next [] x ys = refl
drop_next (z ∷ xs) x ys = drop_next xs x ys

module _ (k : KindMeaning) where
  pub backward_both : (xs ys : List Gate) → backward k (xs ++ ys) ≡ backward k ys ++ backward k xs
  backward_both xs ys = ap (map k.inverse) (reverse-append xs ys) ∙ map-append k.inverse (reverse ys) (reverse xs)

  pub backward_around : (xs : List Gate) (x : Gate) (ys : List Gate) → backward k (xs ++ x ∷ ys) ≡ backward k ys ++ k.inverse x ∷ backward k xs
  backward_around xs x ys =
      backward_both xs (x ∷ ys)
      ∙ ap (λ (r : List Gate). r ++ backward k xs) (ap (map k.inverse) (reverse-cons x ys) ∙ map-append k.inverse (reverse ys) (x ∷ []))
      ∙ append_assoc (backward k ys) (k.inverse x ∷ []) (backward k xs)

  pub read_backward : (gs : List Gate) (p : ℕ) (d : Gate) → p < length gs → get_or (backward k gs) p d ≡ k.inverse (get_or gs (length gs - 1 - p) d)
  read_backward gs p d lt = get_or-map k.inverse (reverse gs) p d d (omega (arith, length-reverse gs)) ∙ ap k.inverse (get_or-reverse gs p d lt)

  module _ (gs : List Gate) (p : ℕ) (d : Gate) (lt : p < length gs) where
    q : ℕ
    q = length gs - 1 - p

    inside : q < length gs
    unfolding q
    inside = omega arith

    behind : length (backward k (drop (suc q) gs)) ≡ p
    unfolding q
    behind = backward_long k (drop (suc q) gs) ∙ length-drop (suc q) gs ∙ omega arith

    whole : backward k gs ≡ backward k (drop (suc q) gs) ++ k.inverse (get_or gs q d) ∷ backward k (take q gs)
    whole = ap (backward k) (around gs q d inside) ∙ backward_around (take q gs) (get_or gs q d) (drop (suc q) gs)

    pub set_backward : (y z : Gate) → k.inverse z ≡ y → backward k (set gs (length gs - 1 - p) z) ≡ set (backward k gs) p y
    unfolding q
    set_backward y z e =
        ap (backward k) (set_split gs q z inside)
        ∙ backward_around (take q gs) z (drop (suc q) gs)
        ∙ ap (λ (x : Gate). backward k (drop (suc q) gs) ++ x ∷ backward k (take q gs)) e
        ∙ sym (ap (λ (r : List Gate). set r p y) whole ∙ set_at (backward k (drop (suc q) gs)) (k.inverse (get_or gs q d)) (backward k (take q gs)) y p behind)

    pub removed_backward : backward k (remove gs (length gs - 1 - p)) ≡ remove (backward k gs) p
    unfolding q
    removed_backward =
        backward_both (take q gs) (drop (suc q) gs)
        ∙ sym (ap (λ (r : List Gate). remove r p) whole
        ∙ ap₂ ◌++◌ (take_at (backward k (drop (suc q) gs)) (k.inverse (get_or gs q d) ∷ backward k (take q gs)) p behind)
        (ap (λ (n : ℕ). drop (suc n) (backward k (drop (suc q) gs) ++ k.inverse (get_or gs q d) ∷ backward k (take q gs))) (sym behind)
        ∙ drop_next (backward k (drop (suc q) gs)) (k.inverse (get_or gs q d)) (backward k (take q gs))))

  pub inserted_backward : (gs : List Gate) (p : ℕ) (y z : Gate) → p ≤ length gs → k.inverse z ≡ y → backward k (insert gs (length gs - p) z) ≡ insert (backward k gs) p y
  inserted_backward gs p y z le e =
      let j = length gs - p in
      let behind : length (backward k (drop j gs)) ≡ p = backward_long k (drop j gs) ∙ length-drop j gs ∙ omega arith in
      let whole : backward k gs ≡ backward k (drop j gs) ++ backward k (take j gs) = ap (backward k) (sym (take-append-drop j gs)) ∙ backward_both (take j gs) (drop j gs) in
      backward_around (take j gs) z (drop j gs)
      ∙ ap (λ (x : Gate). backward k (drop j gs) ++ x ∷ backward k (take j gs)) e
      ∙ sym (ap (λ (r : List Gate). insert r p y) whole
      ∙ ap₂ (λ (u v : List Gate). u ++ y ∷ v) (take_at (backward k (drop j gs)) (backward k (take j gs)) p behind) (drop_at (backward k (drop j gs)) (backward k (take j gs)) p behind))
