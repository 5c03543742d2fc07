-- A test of each number of a range.
use Rattle.std.proofs.Common.{◌≡◌, ℕ, zero, suc, ◌+◌, ◌<◌, ◌≤◌, ◌⊎◌, Bool, true, inl, inr, ap, subst, ◌∙◌, refl, arith}
use Rattle.std.specs.List.{list_all, range_with_len}
use Rattle.std.proofs.lemmas.Bool.{and_from, and_parts, cases_lt}
use Rattle.gates.specs.ControlSets.{iff_same}
use Rattle.gates.specs.Lines.{every_below}
use Rattle.gates.specs.Members.{every_at, every_of}

all_of : (n a : ℕ) (P : ℕ → Bool) → ((i : ℕ) → a ≤ i → i < a + n → P i ≡ true) → list_all P (range_with_len a n) ≡ true
all_of zero a P h = refl
all_of (suc n) a P h = and_from _ _ (h a (omega arith) (omega arith)) (all_of n (a + 1) P (λ i le lt. h i (omega arith) (omega arith)))

all_at : (n a : ℕ) (P : ℕ → Bool) → list_all P (range_with_len a n) ≡ true → (i : ℕ) → a ≤ i → i < a + n → P i ≡ true
all_at zero a P h i le lt = absurd (let z : ⊥ = omega arith in z)
all_at (suc n) a P h i le lt =
    let both = and_parts (P a) (list_all P (range_with_len (a + 1) n)) h in
    at (cases_lt a i) both.0 (λ above. all_at n (a + 1) P both.1 i above (omega arith))
  where
    at : (a < i) ⊎ (i ≤ a) → P a ≡ true → (a + 1 ≤ i → P i ≡ true) → P i ≡ true
    at (inl more) first rest = rest (omega arith)
    at (inr here) first rest = subst (λ (x : ℕ). P x ≡ true) (let e : a ≡ i = omega arith in e) first

-- each number from 0 on, below n
pub all_below : (n m : ℕ) (P : ℕ → Bool) → n ≡ m → list_all P (range_with_len 0 n) ≡ every_below m P
all_below n m P e =
    iff_same _ _ (λ h. every_of n P (λ i lt. all_at n 0 P h i (omega arith) (omega arith))) (λ h. all_of n 0 P (λ i le lt. every_at n P h i (omega arith)))
    ∙ ap (λ (x : ℕ). every_below x P) e
