-- Windows: what an edit inside leaves of the list between its outsides, and of these.
use Rattle.std.proofs.Common.{◌≡◌, ℕ, zero, suc, ◌+◌, ◌-◌, ◌<◌, ◌≤◌, ltb, min, List, [], ◌∷◌, length, take, drop, set, refl, ap, ◌∙◌, ap₂, arith}
use Rattle.std.specs.List.{insert, remove}
use Rattle.std.proofs.lemmas.List.{length-take, length-drop, length-set, drop-set-add, take-set-le, drop-set-lt}
use Rattle.std.proofs.lemmas.List.Edits.{length-insert, length-remove}
use Rattle.std.proofs.lemmas.Bool.{ltb-true, lt-ltb, ltb_from_iff}
use Rattle.gates.specs.declared.gate.Gate.{Gate}
use Rattle.stores.specs.Stores.{StoreMeaning, with_gates}
use Rattle.stores.specs.Mounts.{windowed, window, start_in, size_in}
use Rattle.std.proofs.Math.Seq.{take-set-lt}

module _ {X : Type 0} where
  drop_inserted : (xs : List X) (s q : ℕ) (y : X) → s ≤ q → q ≤ length xs → drop s (insert xs q y) ≡ insert (drop s xs) (q - s) y
  drop_inserted xs zero q y le lt = ap (λ (n : ℕ). insert xs n y) (let e : q ≡ q - 0 = omega arith in e)
  drop_inserted xs (suc s) zero y le lt = absurd (let z : ⊥ = omega arith in z)
  drop_inserted [] (suc s) (suc q) y le lt = absurd (let z : ⊥ = omega arith in z)
  drop_inserted (x ∷ xs) (suc s) (suc q) y le lt = drop_inserted xs s q y (omega arith) (omega arith) ∙ ap (λ (n : ℕ). insert (drop s xs) n y) (let e : q - s ≡ suc q - suc s = omega arith in e)

  take_inserted : (ys : List X) (n p : ℕ) (y : X) → p ≤ n → n ≤ length ys → take (suc n) (insert ys p y) ≡ insert (take n ys) p y
  take_inserted ys n zero y le lt = refl
  take_inserted ys zero (suc p) y le lt = absurd (let z : ⊥ = omega arith in z)
  take_inserted [] (suc n) (suc p) y le lt = absurd (let z : ⊥ = omega arith in z)
  take_inserted (x ∷ ys) (suc n) (suc p) y le lt = ap (λ (r : List X). x ∷ r) (take_inserted ys n p y (omega arith) (omega arith))

  before_inserted : (xs : List X) (s q : ℕ) (y : X) → s ≤ q → q ≤ length xs → take s (insert xs q y) ≡ take s xs
  before_inserted xs zero q y le lt = refl
  before_inserted xs (suc s) zero y le lt = absurd (let z : ⊥ = omega arith in z)
  before_inserted [] (suc s) (suc q) y le lt = absurd (let z : ⊥ = omega arith in z)
  before_inserted (x ∷ xs) (suc s) (suc q) y le lt = ap (λ (r : List X). x ∷ r) (before_inserted xs s q y (omega arith) (omega arith))

  behind_inserted : (xs : List X) (n q : ℕ) (y : X) → q ≤ n → q ≤ length xs → drop (suc n) (insert xs q y) ≡ drop n xs
  behind_inserted xs n zero y le lt = refl
  behind_inserted xs zero (suc q) y le lt = absurd (let z : ⊥ = omega arith in z)
  behind_inserted [] (suc n) (suc q) y le lt = absurd (let z : ⊥ = omega arith in z)
  behind_inserted (x ∷ xs) (suc n) (suc q) y le lt = behind_inserted xs n q y (omega arith) (omega arith)

  drop_removed : (xs : List X) (s q : ℕ) → s ≤ q → q < length xs → drop s (remove xs q) ≡ remove (drop s xs) (q - s)
  drop_removed xs zero q le lt = ap (remove xs) (let e : q ≡ q - 0 = omega arith in e)
  drop_removed xs (suc s) zero le lt = absurd (let z : ⊥ = omega arith in z)
  drop_removed [] (suc s) (suc q) le lt = absurd (let z : ⊥ = omega arith in z)
  drop_removed (x ∷ xs) (suc s) (suc q) le lt = drop_removed xs s q (omega arith) (omega arith) ∙ ap (remove (drop s xs)) (let e : q - s ≡ suc q - suc s = omega arith in e)

  take_removed : (ys : List X) (n p : ℕ) → p ≤ n → n < length ys → take n (remove ys p) ≡ remove (take (suc n) ys) p
  take_removed [] n p le lt = absurd (let z : ⊥ = omega arith in z)
  take_removed (y ∷ ys) n zero le lt = refl
  take_removed (y ∷ ys) zero (suc p) le lt = absurd (let z : ⊥ = omega arith in z)
  take_removed (y ∷ ys) (suc n) (suc p) le lt = ap (λ (r : List X). y ∷ r) (take_removed ys n p (omega arith) (omega arith))

  before_removed : (xs : List X) (s q : ℕ) → s ≤ q → q < length xs → take s (remove xs q) ≡ take s xs
  before_removed xs zero q le lt = refl
  before_removed xs (suc s) zero le lt = absurd (let z : ⊥ = omega arith in z)
  before_removed [] (suc s) (suc q) le lt = absurd (let z : ⊥ = omega arith in z)
  before_removed (x ∷ xs) (suc s) (suc q) le lt = ap (λ (r : List X). x ∷ r) (before_removed xs s q (omega arith) (omega arith))

  behind_removed : (xs : List X) (n q : ℕ) → q ≤ n → q < length xs → drop n (remove xs q) ≡ drop (suc n) xs
  behind_removed [] n q le lt = absurd (let z : ⊥ = omega arith in z)
  behind_removed (x ∷ xs) n zero le lt = refl
  behind_removed (x ∷ xs) zero (suc q) le lt = absurd (let z : ⊥ = omega arith in z)
  behind_removed (x ∷ xs) (suc n) (suc q) le lt = behind_removed xs n q (omega arith) (omega arith)

-- a window by its parts
parts : ℕ → ℕ → List Gate → List Gate → List Gate → List (List Gate × List Gate) → StoreMeaning
parts lines capacity gates before behind outside = record { lines = lines; capacity = capacity; gates = gates; outside = (before, behind) ∷ outside }

same_parts : (l c c' : ℕ) (xs xs' bs bs' es es' : List Gate) (os : List (List Gate × List Gate)) → c ≡ c' → xs ≡ xs' → bs ≡ bs' → es ≡ es' → parts l c xs bs es os ≡ parts l c' xs' bs' es' os
same_parts l c c' xs xs' bs bs' es es' os p q r s = λ i. parts l (p i) (q i) (r i) (s i) os

-- a window that reaches past the list is the part of it within the list, and stays so while the list keeps its length
pub rewindow : (m m' : StoreMeaning) (start size : ℕ) → length m'.gates ≡ length m.gates → window start size m' ≡ window (start_in m start) (size_in m start size) m'
rewindow m m' start size long =
    let first : start_in m' start ≡ start_in m' (start_in m start) = omega arith in
    let many : size_in m' start size ≡ size_in m' (start_in m start) (size_in m start size) = omega arith in
    ap₂ (λ (a b : ℕ). windowed a b m') first many

module _ (m : StoreMeaning) (s n p : ℕ) (fits : s + n ≤ length m.gates) where
  pub window_long : length (take n (drop s m.gates)) ≡ n
  window_long = omega (arith, length-take n (drop s m.gates), length-drop s m.gates)

  -- there is room in the window exactly when there is room below
  pub window_room : ltb (length m.gates) m.capacity ≡ ltb (length (windowed s n m).gates) (windowed s n m).capacity
  window_room =
      let all = length m.gates in
      ltb_from_iff (
        λ e. let lt : all < m.capacity = ltb-true all m.capacity e in omega (arith, lt, window_long, fits),
        λ lt. lt-ltb all m.capacity (omega (arith, lt, window_long, fits)),
      )

  pub window_set : (y : Gate) → p < n → window s n (with_gates m (set m.gates (s + p) y)) ≡ with_gates (windowed s n m) (set (take n (drop s m.gates)) p y)
  unfolding parts
  window_set y lt =
      let xs = m.gates in
      let ys = set xs (s + p) y in
      let long : length ys ≡ length xs = length-set xs (s + p) y in
      let first : min s (length ys) ≡ s = omega arith in
      let many : min n (length ys - min s (length ys)) ≡ n = omega arith in
      ap₂ (λ (a b : ℕ). windowed a b (with_gates m ys)) first many
      ∙ same_parts m.lines _ _ _ _ _ _ _ _ m.outside
      (ap (λ (c : ℕ). m.capacity - (c - n)) long)
      (ap (take n) (drop-set-add s xs p y) ∙ take-set-lt n (drop s xs) p y lt)
      (take-set-le s xs (s + p) y (omega arith))
      (drop-set-lt (s + n) xs (s + p) y (omega arith))

  pub window_inserted : (y : Gate) → p ≤ n → window s (n + 1) (with_gates m (insert m.gates (s + p) y)) ≡ with_gates (windowed s n m) (insert (take n (drop s m.gates)) p y)
  unfolding parts
  window_inserted y le =
      let xs = m.gates in
      let q = s + p in
      let inside : q ≤ length xs = omega arith in
      let ys = insert xs q y in
      let long : length ys ≡ length xs + 1 = length-insert xs q y inside in
      let first : min s (length ys) ≡ s = omega arith in
      let many : min (n + 1) (length ys - min s (length ys)) ≡ suc n = omega arith in
      let left : q - s ≡ p = omega arith in
      let some : n ≤ length (drop s xs) = omega (arith, length-drop s xs) in
      ap₂ (λ (a b : ℕ). windowed a b (with_gates m ys)) first many
      ∙ same_parts m.lines _ _ _ _ _ _ _ _ m.outside
      (let e : m.capacity - (length ys - suc n) ≡ m.capacity - (length xs - n) = omega arith in e)
      (ap (take (suc n)) (drop_inserted xs s q y (omega arith) inside ∙ ap (λ (i : ℕ). insert (drop s xs) i y) left) ∙ take_inserted (drop s xs) n p y le some)
      (before_inserted xs s q y (omega arith) inside)
      (ap (λ (i : ℕ). drop i ys) (let e : s + suc n ≡ suc (s + n) = omega arith in e) ∙ behind_inserted xs (s + n) q y (omega arith) inside)

  pub window_removed : p < n → window s (n - 1) (with_gates m (remove m.gates (s + p))) ≡ with_gates (windowed s n m) (remove (take n (drop s m.gates)) p)
  unfolding parts
  window_removed lt =
      let xs = m.gates in
      let q = s + p in
      let k = n - 1 in
      let inside : q < length xs = omega arith in
      let ys = remove xs q in
      let long : length ys + 1 ≡ length xs = length-remove xs q inside in
      let first : min s (length ys) ≡ s = omega arith in
      let many : min (n - 1) (length ys - min s (length ys)) ≡ k = omega arith in
      let left : q - s ≡ p = omega arith in
      let is : suc k ≡ n = omega arith in
      let some : k < length (drop s xs) = omega (arith, length-drop s xs) in
      ap₂ (λ (a b : ℕ). windowed a b (with_gates m ys)) first many
      ∙ same_parts m.lines _ _ _ _ _ _ _ _ m.outside
      (let e : m.capacity - (length ys - k) ≡ m.capacity - (length xs - n) = omega arith in e)
      (ap (take k) (drop_removed xs s q (omega arith) inside ∙ ap (remove (drop s xs)) left) ∙ take_removed (drop s xs) k p (omega arith) some ∙ ap (λ (i : ℕ). remove (take i (drop s xs)) p) is)
      (before_removed xs s q (omega arith) inside)
      (behind_removed xs (s + k) q (omega arith) inside ∙ ap (λ (i : ℕ). drop i xs) (let e : suc (s + k) ≡ s + n = omega arith in e))
