-- Sets of positions: how many there are, and how high they go.
use Rattle.std.proofs.Common.{◌≡◌, ℕ, zero, suc, ◌+◌, ◌/◌, ◌%◌, ◌^◌, ◌<◌, ◌≤◌, true, false, ltb, leb, ◌⊎◌, Decides, sym, ◌∙◌, subst, inl, inr, pow-suc, arith, pow_mono}
use lib.Count.{ones, ones_step}
use Rattle.std.proofs.lemmas.Bool.{cases_lt, cases_Bool, both_ways, eqb-true, leb-true, le-leb, ltb-true, lt-ltb, and_parts, and_from, eq-eqb}
use Rattle.gates.specs.Lines.{bit, where_below}
use Rattle.gates.specs.Members.{bit_first, bit_next, bit_above, bit_where, set_ext, where_lt, where_lt_of}
use Rattle.workspace.specs.Templates.{IsGroup}
use Rattle.workspace.specs.TemplateTests.{group_test}

-- a number is below the power of two of itself
self_below : (n : ℕ) → n < 2 ^ n
self_below zero = omega arith
self_below (suc n) = omega (arith, self_below n, pow-suc 2 n)

odd_first : (g : ℕ) → g % 2 ≡ 1 → bit g 0 ≡ true
odd_first g e = bit_first g ∙ eq-eqb (g % 2) 1 e

first_odd : (g : ℕ) → bit g 0 ≡ true → g % 2 ≡ 1
first_odd g h = eqb-true (g % 2) 1 (sym (bit_first g) ∙ h)

-- the lowest digit is 0 or 1
digit_cases : (g : ℕ) → (g % 2 ≡ 0) ⊎ (g % 2 ≡ 1)
digit_cases g = at (cases_lt (g % 2) 1)
  where
    at : (g % 2 < 1) ⊎ (1 ≤ g % 2) → (g % 2 ≡ 0) ⊎ (g % 2 ≡ 1)
    at (inl lt) = inl (omega arith)
    at (inr ge) = inr (omega arith)

none_counted : 1 ≤ ones 0 → ⊥
unfolding ones
none_counted h = omega arith

-- a member of the set
abbrev Member : ℕ → Type 0
Member g = (i : ℕ) × (bit g i ≡ true)

-- two members of the set
abbrev Members : ℕ → Type 0
Members g = (i : ℕ) × (j : ℕ) × (i < j) × (bit g i ≡ true) × (bit g j ≡ true)

higher : (g : ℕ) → Member (g / 2) → Member g
higher g (i, h) = (suc i, bit_next g i ∙ h)

-- a set that counts one or more has a member
one_counted : (n g : ℕ) → g < 2 ^ n → 1 ≤ ones g → Member g
one_counted zero g lt h = absurd (none_counted (let none : g ≡ 0 = omega arith in subst (λ (x : ℕ). 1 ≤ ones x) none h))
one_counted (suc n) g lt h = at (digit_cases g) (one_counted n (g / 2) (omega (arith, pow-suc 2 n)))
  where
    at : (g % 2 ≡ 0) ⊎ (g % 2 ≡ 1) → (1 ≤ ones (g / 2) → Member (g / 2)) → Member g
    at (inl even) rest = higher g (rest (omega (arith, ones_step g)))
    at (inr odd) rest = (0, odd_first g odd)

-- a set that counts two or more has two members
two_counted : (n g : ℕ) → g < 2 ^ n → 2 ≤ ones g → Members g
two_counted zero g lt h = absurd (none_counted (let none : g ≡ 0 = omega arith in subst (λ (x : ℕ). 1 ≤ ones x) none (omega arith)))
two_counted (suc n) g lt h = at (digit_cases g) (one_counted n (g / 2) (omega (arith, pow-suc 2 n))) (two_counted n (g / 2) (omega (arith, pow-suc 2 n)))
  where
    at : (g % 2 ≡ 0) ⊎ (g % 2 ≡ 1) → (1 ≤ ones (g / 2) → Member (g / 2)) → (2 ≤ ones (g / 2) → Members (g / 2)) → Members g
    at (inl even) one two =
        let (i, j, lt, hi, hj) = two (omega (arith, ones_step g)) in (suc i, suc j, omega arith, bit_next g i ∙ hi, bit_next g j ∙ hj)
    at (inr odd) one two =
        let (j, hj) = one (omega (arith, ones_step g)) in (0, suc j, omega arith, odd_first g odd, bit_next g j ∙ hj)

-- and a set with members counts them
counted_one : (g i : ℕ) → bit g i ≡ true → 1 ≤ ones g
counted_one g zero h = omega (arith, ones_step g, first_odd g h)
counted_one g (suc i) h = omega (arith, ones_step g, counted_one (g / 2) i (sym (bit_next g i) ∙ h))

counted_two : (g i j : ℕ) → i < j → bit g i ≡ true → bit g j ≡ true → 2 ≤ ones g
counted_two g i zero lt hi hj = absurd (let z : ⊥ = omega arith in z)
counted_two g zero (suc j) lt hi hj = omega (arith, ones_step g, first_odd g hi, counted_one (g / 2) j (sym (bit_next g j) ∙ hj))
counted_two g (suc i) (suc j) lt hi hj =
    omega (arith, ones_step g, counted_two (g / 2) i j (omega arith) (sym (bit_next g i) ∙ hi) (sym (bit_next g j) ∙ hj))

-- the members are below m where the number is below 2 to the m
below_members : (g m : ℕ) → g < 2 ^ m → (i : ℕ) → bit g i ≡ true → i < m
below_members g m lt i h = at (cases_lt i m)
  where
    at : (i < m) ⊎ (m ≤ i) → i < m
    at (inl below) = below
    at (inr above) = absurd (both_ways (bit g i) (bit_above g m i lt above) h)

members_below : (g m : ℕ) → ((i : ℕ) → bit g i ≡ true → i < m) → g < 2 ^ m
members_below g m within =
    subst (λ (x : ℕ). x < 2 ^ m) (sym same) (where_lt_of (g + m) m (bit g) (omega arith) (λ i above. off i above (cases_Bool (bit g i))))
  where
    small : g < 2 ^ (g + m)
    small = let wide : g ≤ g + m = omega arith in omega (arith, self_below g, pow_mono wide)

    same : g ≡ where_below (g + m) (bit g)
    same = set_ext (g + m) g (where_below (g + m) (bit g)) small (where_lt (g + m) (bit g)) (λ i lt. sym (bit_where (g + m) (bit g) i lt))

    off : (i : ℕ) → m ≤ i → (bit g i ≡ true) ⊎ (bit g i ≡ false) → bit g i ≡ false
    off i above (inl h) = absurd (let z : ⊥ = omega (arith, within i h) in z)
    off i above (inr h) = h

-- the test of a group decides whether it is one
pub decides_group : (m g : ℕ) → Decides (group_test m g) (IsGroup m g)
decides_group m g = (
  (λ h.
      let both = and_parts (leb 2 (ones g)) (ltb g (2 ^ m)) h in
      record { two = two_counted g g (self_below g) (leb-true 2 (ones g) both.0); within = below_members g m (ltb-true g (2 ^ m) both.1) }),
  (λ is.
      let (i, j, lt, hi, hj) = is.two in
      and_from (leb 2 (ones g)) (ltb g (2 ^ m)) (le-leb 2 (ones g) (counted_two g i j lt hi hj)) (lt-ltb g (2 ^ m) (members_below g m is.within))),
)
