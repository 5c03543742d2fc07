-- The list without the gates at rising places is what stands before the first, and then the gates that are not at the places.
use Rattle.std.proofs.Common.{◌≡◌, ℕ, zero, suc, ◌+◌, ◌-◌, ◌<◌, Bool, true, false, cond, not, ◌||◌, List, [], ◌∷◌, ◌++◌, length, take, drop, sym, refl, ap, ◌∙◌, ap₂, arith}
use Rattle.std.specs.List.{AllByRecursion}
use mathlib.Core.Path.{fun_ext}
use Rattle.std.specs.List.{remove}
use Rattle.std.proofs.lemmas.List.{append_assoc, take-append-drop, take-take, drop-take, drop-drop, take-append-le, drop_at, length-take-le, length-drop}
use Rattle.std.proofs.lemmas.Bool.{eq-eqb, ne_eqb}
use Rattle.gates.specs.declared.gate.Gate.{Gate}
use Rattle.gates.specs.Cascades.{picked}
use Rattle.workspace.specs.TurnTests.{has_number_lem}
use Rattle.workspace.specs.Occurrences.{Rising}
use Rattle.workspace.specs.Edits.{without}
use Rattle.workspace.proofs.Occurring.{not_yet}

pub picked_true : (gates : List Gate) → picked (λ _. true) gates ≡ gates
picked_true [] = refl
picked_true (g ∷ gates) = ap (λ (gs : List Gate). g ∷ gs) (picked_true gates)

-- all are picked up to place n, and not the one there
skip_one : (c : ℕ → Bool) (xs : List Gate) (n : ℕ) → ((i : ℕ) → i < n → c i ≡ true) → c n ≡ false → n < length xs
    → picked c xs ≡ take n xs ++ picked (λ i. c (suc n + i)) (drop (suc n) xs)
skip_one c [] n all stop lt = absurd (let z : ⊥ = omega arith in z)
skip_one c (x ∷ xs) zero all stop lt =
    ap (λ (b : Bool). cond b (x ∷ picked (λ i. c (suc i)) xs) (picked (λ i. c (suc i)) xs)) stop
    ∙ ap (λ (d : ℕ → Bool). picked d xs) (fun_ext λ i. ap c (let e : suc i ≡ 1 + i = omega arith in e))
skip_one c (x ∷ xs) (suc n) all stop lt =
    ap (λ (b : Bool). cond b (x ∷ picked (λ i. c (suc i)) xs) (picked (λ i. c (suc i)) xs)) (all 0 (omega arith))
    ∙ ap (λ (gs : List Gate). x ∷ gs) (skip_one (λ i. c (suc i)) xs n (λ i l. all (suc i) (omega arith)) stop (omega arith))
    ∙ ap (λ (d : ℕ → Bool). x ∷ (take n xs ++ picked d (drop (suc n) xs))) (fun_ext λ i. ap c (let e : suc (suc n + i) ≡ suc (suc n) + i = omega arith in e))

-- a front is a shorter front and what follows it
front_parts : (gates : List Gate) (q n : ℕ) → take q gates ++ take n (drop q gates) ≡ take (q + n) gates
front_parts gates q n =
    ap₂ (λ (u v : List Gate). u ++ v) (sym (take-take q (q + n) gates (omega arith))) (sym (drop-take q n gates)) ∙ take-append-drop q (take (q + n) gates)

-- the places rise from q on
pub without_is : (gates : List Gate) (q : ℕ) (places : List ℕ) → Rising q places → AllByRecursion (λ x. x < length gates) places
    → without gates places ≡ take q gates ++ picked (λ i. not (has_number_lem places (q + i))) (drop q gates)
without_is gates q [] h all = sym (ap (λ (gs : List Gate). take q gates ++ gs) (picked_true (drop q gates)) ∙ take-append-drop q gates)
without_is gates q (x ∷ xs) h all =
    let n = x - q in
    let c : ℕ → Bool = λ i. not (has_number_lem (x ∷ xs) (q + i)) in
    let front = take (suc x) gates in
    let rest : List Gate = picked (λ i. not (has_number_lem xs (suc x + i))) (drop (suc x) gates) in
    let long : length front ≡ suc x = length-take-le (suc x) gates all.0 in
    let there : q + n ≡ x = omega (arith, h.0) in
    let before : (i : ℕ) → i < n → c i ≡ true = λ i l. ap not (not_yet (x ∷ xs) (q + i) x (omega arith, h.1) (omega (arith, h.0))) in
    let at : c n ≡ false = ap (λ (b : Bool). not (b || has_number_lem xs (q + n))) (eq-eqb x (q + n) (sym there)) in
    let later : (λ (i : ℕ). c (suc n + i)) ≡ (λ (i : ℕ). not (has_number_lem xs (suc x + i))) =
    fun_ext λ i. ap₂ (λ (b : Bool) (j : ℕ). not (b || has_number_lem xs j)) (ne_eqb x (q + (suc n + i)) (λ e. omega arith)) (let e : q + (suc n + i) ≡ suc x + i = omega arith in e) in
    ap (λ (w : List Gate). remove w x) (without_is gates (suc x) xs h.1 all.1)
    ∙ ap₂ (λ (u v : List Gate). u ++ v) (take-append-le x front rest (omega (arith, long)) ∙ take-take x (suc x) gates (omega arith)) (drop_at front rest (suc x) long)
    ∙ sym
    (ap (λ (gs : List Gate). take q gates ++ gs) (skip_one c (drop q gates) n before at (omega (arith, length-drop q gates, all.0, h.0)))
    ∙ sym (append_assoc (take q gates) (take n (drop q gates)) (picked (λ i. c (suc n + i)) (drop (suc n) (drop q gates))))
    ∙ ap₂ (λ (u v : List Gate). u ++ v) (front_parts gates q n ∙ ap (λ (i : ℕ). take i gates) there)
    (ap₂ (λ (d : ℕ → Bool) (gs : List Gate). picked d gs) later (drop-drop (suc n) q gates ∙ ap (λ (i : ℕ). drop i gates) (let e : q + suc n ≡ suc x = omega arith in e))))
