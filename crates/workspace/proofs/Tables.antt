-- Arrays that a closure fills, where no call changes the closure.
use Rattle.std.proofs.Common.{◌≡◌, ℕ, zero, suc, ◌+◌, ◌<◌, ◌≤◌, ◌⊎◌, List, get_or, sym, refl, subst, inl, inr, arith}
use denote.Param.Members.{Called, Mut}
use Rattle.std.specs.Array.{IsFromFnResult, IsFromFnResultFrom}
use Rattle.std.proofs.lemmas.Bool.{cases_eq}

module _ {F B : Type 0} (g : Mut F (ℕ × Unit {0}) B) (f : F) (P : ℕ → B → Type 0) (each : (i : ℕ) (y : B) (q : F) → Called g f (i, tt) y q → (q ≡ f) × P i y) where
  at_one : (ys : List B) (d : B) (i j : ℕ) (y : B) → P i y → get_or ys i d ≡ y → (i < j → P j (get_or ys j d)) → i ≤ j → (j ≡ i) ⊎ (j ≡ i → ⊥) → P j (get_or ys j d)
  at_one ys d i j y here is rest low (inl same) = subst (λ (x : ℕ). P x (get_or ys x d)) (sym same) (subst (P i) (sym is) here)
  at_one ys d i j y here is rest low (inr ne) = rest (omega arith)

  made_from : (n i : ℕ) (q : F) (ys : List B) → q ≡ f → IsFromFnResultFrom g q ys i n → (j : ℕ) → i ≤ j → j < i + n → (d : B) → P j (get_or ys j d)
  made_from zero i q ys e t j low high d = absurd (let z : ⊥ = omega arith in z)
  made_from (suc n) i q ys e t j low high d =
      let one : (t.0 ≡ f) × P i t.1 = each i t.1 t.0 (subst (λ (s : F). Called g s (i, tt) t.1 t.0) e t.3) in
      at_one ys d i j t.1 one.1 (t.2.1 d) (λ later. made_from n (i + 1) t.0 ys one.0 t.4 j (omega arith) (omega arith) d) low (cases_eq j i)

  -- what holds of each call's number and answer holds of each place and what stands there
  pub made : (ys : List B) (n : ℕ) → IsFromFnResult g f ys n → (j : ℕ) → j < n → (d : B) → P j (get_or ys j d)
  made ys n is j l d = made_from n 0 f ys refl is.each j (omega arith) (omega arith) d
