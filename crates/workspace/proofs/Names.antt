-- A key read, number by number.
use Rattle.std.proofs.Common.{◌≡◌, ℕ, ◌+◌, ◌≤◌, Bool, true, false, cond, eqb, ltb, leb, List, map, length, get_or, take, drop, Some, None, Option, sym, refl, ap, ◌∙◌, arith}
use Rattle.std.proofs.lemmas.List.{length-drop}
use Rattle.std.proofs.lemmas.Bool.{le-leb, eq-eqb, and_from}
use Rattle.workspace.specs.TemplateTests.{all_pass}
use Rattle.workspace.specs.Naming.{readable, spelled}
use Rattle.workspace.specs.Occurrences.{Occurrence}

module _ (n : ℕ) (xs : List ℕ) (long : 6 ≤ length xs) (few : n ≤ 4) (room : n ≤ length (drop 6 xs)) (sum : get_or xs 2 0 + length (drop 6 xs) ≡ 7 + n) (direction : get_or xs 3 0 ≤ 1) where
  abbrev pub small : Bool
  small = all_pass (λ x. ltb x 256) (take n (drop 6 xs))

  -- the key can be read where its lines are small
  can_read : small ≡ true → readable n xs ≡ true
  can_read are =
      and_from (leb n 4) _ (le-leb n 4 few)
      (and_from (leb (6 + n) (length xs)) _ (le-leb (6 + n) (length xs) (omega (arith, length-drop 6 xs)))
      (and_from (eqb (get_or xs 2 0 + length xs) (13 + n)) _ (eq-eqb _ _ (omega (arith, length-drop 6 xs)))
      (and_from (leb (get_or xs 3 0) 1) _ (le-leb _ 1 direction) are)))

  -- what is read is the occurrence that is spelled
  pub decoded : (first number rotation flips : ℕ) (table later : List ℕ) → first ≡ get_or xs 0 0 → number ≡ get_or xs 1 0 → rotation ≡ get_or xs 4 0 → flips ≡ get_or xs 5 0
      → ◌≡◌ {A = Option (List ℕ)} (Some table) (cond small (Some (take n (drop 6 xs))) None) → later ≡ drop n (drop 6 xs)
      → ◌≡◌ {A = Option Occurrence} (Some record { first = first; number = number; turn = record { back = eqb (get_or xs 3 0) 1; rotation = rotation; flips = flips; table = table }; later = map (λ d. first + d) later })
      (cond (readable n xs) (Some (spelled n xs)) None)
  decoded first number rotation flips table later p q r f t l = at small refl t
    where
      at : (b : Bool) → small ≡ b → ◌≡◌ {A = Option (List ℕ)} (Some table) (cond b (Some (take n (drop 6 xs))) None)
          → ◌≡◌ {A = Option Occurrence} (Some record { first = first; number = number; turn = record { back = eqb (get_or xs 3 0) 1; rotation = rotation; flips = flips; table = table }; later = map (λ d. first + d) later })
          (cond (readable n xs) (Some (spelled n xs)) None)
      at true are h =
          let s : table ≡ take n (drop 6 xs) = cc in
          (λ i. Some record { first = p i; number = q i; turn = record { back = eqb (get_or xs 3 0) 1; rotation = r i; flips = f i; table = s i }; later = map (λ d. p i + d) (l i) })
          ∙ ap (λ (b : Bool). cond b (Some (spelled n xs)) None) (sym (can_read are))
      at false are h = absurd (let z : ◌≡◌ {A = ℕ} 0 1 = cc in omega arith)
