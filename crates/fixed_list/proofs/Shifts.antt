-- Lists in arrays: what moving the later items up leaves.
use Rattle.std.proofs.Common.{◌≡◌, ℕ, subst, get_or, zero, suc, [], ◌∷◌, refl, set, ◌+◌, ◌-◌, ◌<◌, ◌≤◌, Bool, true, false, nat_lt, List, ◌++◌, length, take, drop, sym, ap, ap₂, ◌∙◌, arith, cond}
use Rattle.std.specs.List.{AllZip, copy_within, remove}
use Rattle.std.proofs.lemmas.Slice.Zip.{AllZip-long}
use Rattle.std.proofs.lemmas.Bool.{lt-ltb, ltb-true, ltb_from_iff}
use Rattle.std.proofs.lemmas.List.{drop-take, take-take, take_all, take_more, take_more_set, length-drop, length-take-le}
use Rattle.std.proofs.lemmas.List.Edits.{take-paste}
use Rattle.fixed_list.specs.Lists.{pushed, removed}

module _ {T : Type 0} (xs : List T) (count place : ℕ) (there : place < count) (within : count ≤ length xs) where
  -- one item less: those before the place, and those behind it
  pub moved_up : take (count - 1) (copy_within xs (place + 1) count place) ≡ remove (take count xs) place
  moved_up =
      let k = count - (place + 1) in
      let front : count - 1 ≡ place + k = omega arith in
      let whole : count ≡ suc place + k = omega arith in
      let next : place + 1 ≡ suc place = omega arith in
      ap (λ (n : ℕ). take n (copy_within xs (place + 1) count place)) front
      ∙ take-paste xs place (drop (place + 1) xs) k (omega arith) (omega (arith, length-drop (place + 1) xs))
      ∙ ap₂ (λ (a b : List T). a ++ b)
      (sym (take-take place count xs (omega arith)))
      (ap (λ (n : ℕ). take k (drop n xs)) next ∙ sym (drop-take (suc place) k xs) ∙ ap (λ (n : ℕ). drop (suc place) (take n xs)) (sym whole))

  pub shifted : take (count - 1) (copy_within xs (place + 1) count place) ≡ removed (take count xs) place
  shifted =
      let inside : place < length (take count xs) = omega (arith, length-take-le count xs within) in
      moved_up ∙ sym (ap (λ (t : Bool). cond t (remove (take count xs) place) (take count xs)) (lt-ltb place (length (take count xs)) inside))

-- one item more on each side
zip_more : {A B : Type 0} (R : A → B → Type 0) (xs : List A) (ys : List B) (x : A) (y : B) → AllZip R xs ys → R x y → AllZip R (xs ++ x ∷ []) (ys ++ y ∷ [])
zip_more R [] [] x y zipped one = (one, tt)
zip_more R [] (b ∷ ys) x y zipped one = absurd zipped
zip_more R (a ∷ xs) [] x y zipped one = absurd zipped
zip_more R (a ∷ xs) (b ∷ ys) x y zipped one = (zipped.0, zip_more R xs ys x y zipped.1 one)

-- one item more is turned, and there is room for it
pub turned_more : {A B : Type 0} (R : A → B → Type 0) (xs : List A) (ys : List B) (i most : ℕ) (d : A) (y : B)
    → i < length xs → length xs ≤ most → AllZip R (take i xs) ys → R (get_or xs i d) y → AllZip R (take (i + 1) xs) (pushed most ys y)
turned_more R xs ys i most d y inside few zipped one =
    let room : length ys < most = omega (arith, AllZip-long R (take i xs) ys zipped, length-take-le i xs (omega arith)) in
    subst (AllZip R (take (i + 1) xs)) (sym (ap (λ (t : Bool). cond t (ys ++ y ∷ []) ys) (lt-ltb (length ys) most room)))
    (subst (λ (zs : List _). AllZip R zs (ys ++ y ∷ [])) (sym (take_more xs i d inside)) (zip_more R (take i xs) ys (get_or xs i d) y zipped one))

-- one item more is turned where it stands
pub turned_next : {A B : Type 0} (R : A → B → Type 0) (xs : List A) (ys : List B) (i : ℕ) (d : A) (y : B)
    → i < length xs → i < length ys → AllZip R (take i xs) (take i ys) → R (get_or xs i d) y → AllZip R (take (i + 1) xs) (take (i + 1) (set ys i y))
turned_next R xs ys i d y inside room zipped one =
    subst (λ (zs : List _). AllZip R zs (take (i + 1) (set ys i y))) (sym (take_more xs i d inside))
    (subst (AllZip R (take i xs ++ get_or xs i d ∷ [])) (sym (take_more_set ys i y room)) (zip_more R (take i xs) (take i ys) (get_or xs i d) y zipped one))

-- what holds of the items of two lists holds of their first ones
zip_first : {A B : Type 0} (R : A → B → Type 0) (m : ℕ) (xs : List A) (ys : List B) → AllZip R xs ys → AllZip R (take m xs) (take m ys)
zip_first R zero xs ys zipped = tt
zip_first R (suc m) [] [] zipped = tt
zip_first R (suc m) [] (y ∷ ys) zipped = absurd zipped
zip_first R (suc m) (x ∷ xs) [] zipped = absurd zipped
zip_first R (suc m) (x ∷ xs) (y ∷ ys) zipped = (zipped.0, zip_first R m xs ys zipped.1)

-- all items are turned, and so are those that count
pub turned_all : {A B : Type 0} (R : A → B → Type 0) (xs : List A) (ys : List B) (i m n : ℕ) → length xs ≤ i → length ys ≡ length xs → n ≡ m
    → AllZip R (take i xs) (take i ys) → AllZip R (take m xs) (take n ys)
turned_all R xs ys i m n past long same zipped =
    subst (λ k. AllZip R (take m xs) (take k ys)) (sym same)
    (zip_first R m xs ys (subst (AllZip R xs) (take_all i ys (omega arith)) (subst (λ zs. AllZip R zs (take i ys)) (take_all i xs past) zipped)))

-- an item behind the first ones of a list, where there is room
pub pushed_first : {T : Type 0} (most : ℕ) (xs : List T) (x : T) → pushed most (take most xs) x ≡ take most (xs ++ x ∷ [])
pushed_first zero xs x = refl
pushed_first (suc zero) [] x = refl
pushed_first (suc (suc most)) [] x = ap (λ (t : Bool). cond t (x ∷ []) []) (lt-ltb 0 (suc (suc most)) (omega arith))
pushed_first (suc most) (y ∷ xs) x =
    ap (λ (t : Bool). cond t (y ∷ (take most xs ++ x ∷ [])) (y ∷ take most xs)) (less (length (take most xs)) most)
    ∙ more (nat_lt (length (take most xs)) most) (take most xs)
    ∙ ap (λ (r : List _). y ∷ r) (pushed_first most xs x)
  where
    less : (n m : ℕ) → nat_lt (suc n) (suc m) ≡ nat_lt n m
    less n m = ltb_from_iff (λ e. let lt : suc n < suc m = ltb-true (suc n) (suc m) e in omega arith, λ lt. lt-ltb (suc n) (suc m) (omega arith))

    more : (b : Bool) (zs : List _) → cond b (y ∷ (zs ++ x ∷ [])) (y ∷ zs) ≡ y ∷ cond b (zs ++ x ∷ []) zs
    more true zs = refl
    more false zs = refl
