-- Gates moved to the front over those they interchange with.
use Rattle.std.proofs.Common.{◌≡◌, ℕ, suc, ◌+◌, ◌<◌, Bool, true, false, cond, not, List, [], ◌∷◌, ◌++◌, length, get_or, sym, refl, ap, ◌∙◌, arith}
use Rattle.std.specs.List.{AllByRecursion}
use Rattle.gates.specs.declared.gate.Gate.{Gate}
use Rattle.gates.specs.Lines.{State}
use Rattle.gates.specs.Kinds.{KindMeaning, KindLaws, Formed}
use Rattle.gates.specs.Cascades.{run, picked, Moves}
use Rattle.gates.proofs.Runs.{run_append}

pub all_picked : (P : Gate → Type 0) (c : ℕ → Bool) (gates : List Gate) → AllByRecursion P gates → AllByRecursion P (picked c gates)
all_picked P c [] h = tt
all_picked P c (g ∷ gates) h =
    let rest : AllByRecursion P (picked (λ i. c (suc i)) gates) = all_picked P (λ i. c (suc i)) gates h.1 in
    elim (c 0) as (λ b. AllByRecursion P (cond b (g ∷ picked (λ i. c (suc i)) gates) (picked (λ i. c (suc i)) gates))) [ true ↦ (h.0, rest) | false ↦ rest ]

pub length_picked : (c : ℕ → Bool) (gates : List Gate) → length (picked c gates) + length (picked (λ i. not (c i)) gates) ≡ length gates
length_picked c [] = refl
length_picked c (g ∷ gates) =
    let rest = length_picked (λ i. c (suc i)) gates in
    elim (c 0) as (λ b. length (cond b (g ∷ picked (λ i. c (suc i)) gates) (picked (λ i. c (suc i)) gates))
    + length (cond (not b) (g ∷ picked (λ i. not (c (suc i))) gates) (picked (λ i. not (c (suc i))) gates)) ≡ suc (length gates))
    [ true ↦ omega arith | false ↦ omega arith ]

-- what holds of the gates at the picked places
picked_all : (P : Gate → Type 0) (c : ℕ → Bool) (gates : List Gate) → ((j : ℕ) (d : Gate) → j < length gates → c j ≡ true → P (get_or gates j d)) → AllByRecursion P (picked c gates)
picked_all P c [] h = tt
picked_all P c (g ∷ gates) h =
    let rest : AllByRecursion P (picked (λ i. c (suc i)) gates) = picked_all P (λ i. c (suc i)) gates (λ j d lt e. h (suc j) d (omega arith) e) in
    (elim (c 0) as (λ b. c 0 ≡ b → AllByRecursion P (cond b (g ∷ picked (λ i. c (suc i)) gates) (picked (λ i. c (suc i)) gates)))
    [ true ↦ λ e. (h 0 g (omega arith) e, rest) | false ↦ λ e. rest ]) refl

module _ {k : KindMeaning} (laws : KindLaws k) (n : ℕ) where
  -- a gate goes over gates that it interchanges with
  passes : (g : Gate) (gates : List Gate) → Formed k n g → AllByRecursion (Formed k n) gates → AllByRecursion (λ h. k.free g h ≡ true) gates
      → (s : State) → run k gates (k.sends g s) ≡ k.sends g (run k gates s)
  passes g [] f fs h s = refl
  passes g (x ∷ gates) f fs h s =
      ap (run k gates) (laws.interchange n g x f fs.0 h.0 s) ∙ passes g gates f fs.1 h.1 (k.sends x s)

  pub exchanging : (xs ys : List Gate) (g h : Gate) → Formed k n g → Formed k n h → k.free g h ≡ true
      → (s : State) → run k (xs ++ g ∷ h ∷ ys) s ≡ run k (xs ++ h ∷ g ∷ ys) s
  exchanging xs ys g h f f' e s =
      run_append k xs (g ∷ h ∷ ys) s ∙ ap (run k ys) (laws.interchange n g h f f' e (run k xs s)) ∙ sym (run_append k xs (h ∷ g ∷ ys) s)

  pub moving : (c : ℕ → Bool) (gates : List Gate) → AllByRecursion (Formed k n) gates → Moves k c gates
      → (s : State) → run k gates s ≡ run k (picked c gates ++ picked (λ i. not (c i)) gates) s
  moving c [] h m s = refl
  moving c (g ∷ gates) h m s =
      moving (λ i. c (suc i)) gates h.1 (λ i j d lt le p q. m (suc i) (suc j) d (omega arith) (omega arith) p q) (k.sends g s)
      ∙ (elim (c 0) as (λ b. c 0 ≡ b → run k (front ++ behind) (k.sends g s) ≡ run k (cond b (g ∷ front) front ++ cond (not b) (g ∷ behind) behind) s) [
        | true ↦ λ e. refl
        | false ↦ λ e.
            run_append k front behind (k.sends g s)
            ∙ ap (run k behind) (passes g front h.0 (all_picked (Formed k n) (λ i. c (suc i)) gates h.1) (picked_all (λ x. k.free g x ≡ true) (λ i. c (suc i)) gates (λ j d lt q. m 0 (suc j) d (omega arith) (omega arith) e q)) s)
            ∙ sym (run_append k front (g ∷ behind) s)
      ]) refl
    where
      front : List Gate
      front = picked (λ i. c (suc i)) gates

      behind : List Gate
      behind = picked (λ i. not (c (suc i))) gates
