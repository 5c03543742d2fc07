-- There is one list to be shown: lists in strict rank order that have the same members are equal.
use Rattle.std.proofs.Common.{◌≡◌, ℕ, ◌⊎◌, List, [], ◌∷◌, sym, refl, ◌∙◌, subst, inl, inr, arith}
use Rattle.std.specs.List.{AllByRecursion}
use Rattle.search.specs.Keys.{Before, Ascending, In, ShownIn}

before_asym : (j k : List ℕ) → Before j k → Before k j → ⊥
before_asym [] [] a b = a
before_asym [] (y ∷ ys) a b = b
before_asym (x ∷ xs) [] a b = a
before_asym (x ∷ xs) (y ∷ ys) (inl p) (inl q) = omega arith
before_asym (x ∷ xs) (y ∷ ys) (inl p) (inr q) = omega (arith, q.0)
before_asym (x ∷ xs) (y ∷ ys) (inr p) (inl q) = omega (arith, p.0)
before_asym (x ∷ xs) (y ∷ ys) (inr p) (inr q) = before_asym xs ys p.1 q.1

all_in : (P : List ℕ → Type 0) (xs : List (List ℕ)) (k : List ℕ) → AllByRecursion P xs → In k xs → P k
all_in P [] k a i = absurd i
all_in P (x ∷ xs) k a (inl e) = subst P (sym e) a.0
all_in P (x ∷ xs) k a (inr i) = all_in P xs k a.1 i

heads : (x y : List ℕ) (xs ys : List (List ℕ)) → AllByRecursion (Before x) xs → AllByRecursion (Before y) ys → (x ≡ y) ⊎ In x ys → (y ≡ x) ⊎ In y xs → x ≡ y
heads x y xs ys a b (inl e) q = e
heads x y xs ys a b (inr i) (inl e) = sym e
heads x y xs ys a b (inr i) (inr l) = absurd (before_asym x y (all_in (Before x) xs y a l) (all_in (Before y) ys x b i))

tails : (x y k : List ℕ) (xs ys : List (List ℕ)) → x ≡ y → AllByRecursion (Before x) xs → In k xs → (k ≡ y) ⊎ In k ys → In k ys
tails x y k xs ys same a i (inl e) =
    let b : Before k k = subst (λ (z : List ℕ). Before z k) (same ∙ sym e) (all_in (Before x) xs k a i) in
    absurd (before_asym k k b b)
tails x y k xs ys same a i (inr l) = l

ascending_unique : (xs ys : List (List ℕ)) → Ascending xs → Ascending ys → ((k : List ℕ) → In k xs → In k ys) → ((k : List ℕ) → In k ys → In k xs) → xs ≡ ys
ascending_unique [] [] r s to from = refl
ascending_unique [] (y ∷ ys) r s to from = absurd (from y (inl refl))
ascending_unique (x ∷ xs) [] r s to from = absurd (to x (inl refl))
ascending_unique (x ∷ xs) (y ∷ ys) r s to from =
    let same : x ≡ y = heads x y xs ys r.0 s.0 (to x (inl refl)) (from y (inl refl)) in
    let rest : xs ≡ ys = ascending_unique xs ys r.1 s.1
    (λ k i. tails x y k xs ys same r.0 i (to k (inr i)))
    (λ k i. tails y x k ys xs (sym same) s.0 i (from k (inr i))) in
    cc

pub shown_unique : (P : List ℕ → Type 0) (prefix : List ℕ) (os other : List (List ℕ)) → ShownIn P prefix os → ShownIn P prefix other → other ≡ os
shown_unique P prefix os other s t =
    ascending_unique other os t.ascending s.ascending
    (λ k i. s.all k (t.each k i).0 (t.each k i).1)
    (λ k i. t.all k (s.each k i).0 (s.each k i).1)
