-- The chosen gates of a frame, step by step.
use Rattle.std.proofs.Common.{◌≡◌, ℕ, zero, suc, ◌+◌, ◌<◌, ◌≤◌, min, Bool, true, false, ◌||◌, eqb, ltb, leb, ◌⊎◌, List, [], ◌∷◌, length, get_or, drop, sym, refl, ap, ◌∙◌, inl, inr, arith}
use Rattle.std.specs.List.{IsAllAdjacentAnswer}
use Rattle.std.proofs.lemmas.List.{at_drop_more}
use Rattle.std.proofs.lemmas.Bool.{cases_lt, cases_eq, lt-ltb, ltb-true, le-leb, lt-leb, eq-eqb, ne_eqb, and_from, and_left, and_right}
use Rattle.gates.specs.Lines.{width, bit}
use Rattle.gates.specs.Controls.{with_member}
use Rattle.gates.specs.Members.{bit_none, bit_where}
use Rattle.workspace.specs.TurnTests.{has_number_lem}
use Rattle.workspace.specs.OccurrenceTests.{rising_test}

-- numbers rise where each is below the next
up : (x : ℕ) (xs : List ℕ) → ((k d : ℕ) → k + 1 < length (x ∷ xs) → true ≡ ltb (get_or (x ∷ xs) k d) (get_or (x ∷ xs) (k + 1) d)) → rising_test (suc x) xs ≡ true
up x [] h = refl
up x (y ∷ ys) h =
    let below : x < y = ltb-true x y (sym (h 0 0 (omega arith))) in
    and_from (leb (suc x) y) (rising_test (suc y) ys) (le-leb (suc x) y (omega arith)) (up y ys (λ k d lt. let next : suc k + 1 ≡ suc (k + 1) = omega arith in h (suc k) d (omega arith) ∙ ap (λ (i : ℕ). ltb (get_or (y ∷ ys) k d) (get_or (x ∷ y ∷ ys) i d)) next))

down : (x : ℕ) (xs : List ℕ) (k : ℕ) → k + 1 < length (x ∷ xs) → false ≡ ltb (get_or (x ∷ xs) k 0) (get_or (x ∷ xs) (k + 1) 0) → rising_test (suc x) xs ≡ false
down x [] k lt e = absurd (let z : ⊥ = omega arith in z)
down x (y ∷ ys) zero lt e = and_left (leb (suc x) y) (rising_test (suc y) ys) (at (cases_lt x y))
  where
    at : (x < y) ⊎ (y ≤ x) → leb (suc x) y ≡ false
    at (inl less) = absurd (let no : ◌≡◌ {A = Bool} false true = e ∙ lt-ltb x y less in let z : ◌≡◌ {A = ℕ} 0 1 = cc in omega arith)
    at (inr not-less) = lt-leb (suc x) y (omega arith)
down x (y ∷ ys) (suc k) lt e = and_right (leb (suc x) y) (rising_test (suc y) ys) (let next : suc k + 1 ≡ suc (k + 1) = omega arith in down y ys k (omega arith) (e ∙ ap (λ (i : ℕ). ltb (get_or (y ∷ ys) k 0) (get_or (x ∷ y ∷ ys) i 0)) next))

pub rises : (xs : List ℕ) (r : Bool) → IsAllAdjacentAnswer (λ x y b. b ≡ ltb x y) xs r → r ≡ rising_test 0 xs
rises [] true h = refl
rises [] false (k, lt, e) = absurd (none k lt)
  where
    none : (k : ℕ) → k + 1 < 0 → ⊥
    none k lt = omega arith
rises (x ∷ xs) true h = sym (and_from (leb 0 x) (rising_test (suc x) xs) (le-leb 0 x (omega arith)) (up x xs h))
rises (x ∷ xs) false (k, lt, e) = sym (and_right (leb 0 x) (rising_test (suc x) xs) (down x xs k lt (e 0)))

-- the chosen distances as a set
clamped : (d l i : ℕ) → l ≡ min d 255 → i < 32 → eqb i l ≡ eqb d i
clamped d l i is lt = at (cases_eq i l)
  where
    at : (i ≡ l) ⊎ (i ≡ l → ⊥) → eqb i l ≡ eqb d i
    at (inl e) = eq-eqb i l e ∙ sym (eq-eqb d i (omega arith))
    at (inr ne) = ne_eqb i l ne ∙ sym (ne_eqb d i (λ e. ne (omega arith)))

-- each distance below 32 is in the set or still to come
abbrev pub ChosenSoFar : List ℕ → ℕ → ℕ → Type 0
ChosenSoFar ds j set = (i : ℕ) → i < 32 → (bit set i || has_number_lem (drop j ds) i) ≡ has_number_lem ds i

pub chosen_none : (ds : List ℕ) → ChosenSoFar ds 0 0
chosen_none ds i lt = ap (λ (b : Bool). b || has_number_lem ds i) (bit_none i)

pub chosen_more : (ds : List ℕ) (j set l new : ℕ) → j < length ds → ChosenSoFar ds j set → l ≡ min (get_or ds j 0) 255 → new ≡ with_member l set → ChosenSoFar ds (j + 1) new
chosen_more ds j set l new inside before low is i lt =
    let d = get_or ds j 0 in
    let rest = has_number_lem (drop (j + 1) ds) i in
    ap (λ (b : Bool). b || rest) (ap (λ (s : ℕ). bit s i) is ∙ bit_where width (λ m. eqb m l || bit set m) i lt ∙ ap (λ (b : Bool). b || bit set i) (clamped d l i low lt))
    ∙ shuffle (eqb d i) (bit set i) rest
    ∙ ap (λ (b : Bool). bit set i || b) (sym (at_drop_more (λ xs. has_number_lem xs i) ds j 0 inside))
    ∙ before i lt
  where
    shuffle : (a b c : Bool) → ((a || b) || c) ≡ (b || (a || c))
    shuffle true true c = refl
    shuffle true false c = refl
    shuffle false true c = refl
    shuffle false false c = refl
