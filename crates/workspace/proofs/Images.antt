-- Lists made item by item from others.
use Rattle.std.proofs.Common.{◌≡◌, ◌≢◌, ℕ, zero, suc, ◌+◌, ◌<◌, Bool, cond, List, [], ◌∷◌, ◌++◌, map, length, get_or, take, sym, refl, ap, ◌∙◌, ap₂, arith}
use Rattle.std.specs.List.{AllZip}
use Rattle.std.proofs.lemmas.Bool.{lt-ltb}
use Rattle.std.proofs.lemmas.List.{length-map, length-take, map_push, take_more, get_or-replicate}
use Rattle.fixed_list.specs.Lists.{pushed}
use Rattle.workspace.specs.Notes.{open_reach}

module _ {A B : Type 0} where
  -- what is known of the items place by place is known in a weaker form too
  pub zip_weaker : (R S : A → B → Type 0) → ((x : A) (y : B) → R x y → S x y) → (xs : List A) (ys : List B) → AllZip R xs ys → AllZip S xs ys
  zip_weaker R S h [] [] z = z
  zip_weaker R S h [] (y ∷ ys) z = absurd z
  zip_weaker R S h (x ∷ xs) [] z = absurd z
  zip_weaker R S h (x ∷ xs) (y ∷ ys) z = (h x y z.0, zip_weaker R S h xs ys z.1)

  -- what the items keep, the lists keep
  pub zip_kept : {C : Type 0} (R : A → B → Type 0) (f : A → C) (g : B → C) → ((x : A) (y : B) → R x y → g y ≡ f x) → (xs : List A) (ys : List B) → AllZip R xs ys → map g ys ≡ map f xs
  zip_kept R f g h [] [] z = refl
  zip_kept R f g h [] (y ∷ ys) z = absurd z
  zip_kept R f g h (x ∷ xs) [] z = absurd z
  zip_kept R f g h (x ∷ xs) (y ∷ ys) z = ap₂ ◌∷◌ (h x y z.0) (zip_kept R f g h xs ys z.1)

-- one item more is put behind those that are what the first of a list are
pub filled_next : {X Y : Type 0} (h : X → Y) (most : ℕ) (xs : List X) (x : X) (ys : List Y) (j : ℕ) (d : Y)
    → j < most → j < length ys → map h xs ≡ take j ys → h x ≡ get_or ys j d → map h (pushed most xs x) ≡ take (j + 1) ys
filled_next {X} {Y} h most xs x ys j d room inside before is =
    let long : length xs ≡ j = sym (length-map xs h) ∙ ap length before ∙ omega (arith, length-take j ys) in
    ap (λ (b : Bool). map h (cond b (xs ++ x ∷ []) xs)) (lt-ltb (length xs) most (omega arith))
    ∙ map_push h xs x
    ∙ ap₂ (λ (front : List Y) (y : Y). front ++ y ∷ []) before is
    ∙ sym (take_more ys j d inside)

-- where the first gate can stand before any line is known, and where a later one can
pub open_first : (j : ℕ) → j ≡ 0 → 1 ≡ get_or open_reach j 0
open_first j first = ap (λ (i : ℕ). get_or open_reach i 0) (sym first)

pub open_later : (j : ℕ) → j < 8 → j ≢ 0 → 18446744073709551614 ≡ get_or open_reach j 0
open_later zero few later = absurd (later refl)
open_later (suc j) few later = sym (get_or-replicate 7 j 18446744073709551614 0 (omega arith))
