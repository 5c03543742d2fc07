-- Sets of lines as numbers: their members, and sets that are made of tests.
use Rattle.std.specs.Prelude.{◌≡◌, ℕ, zero, suc, ◌/◌, ◌%◌, ◌^◌, ◌<◌, ◌≤◌, Bool, true, false, cond, ◌&&◌, ◌⊎◌, ◌==◌, nat_eq, refl}
use Rattle.std.proofs.Common.{sym, ap, ◌∙◌, subst, inl, inr, div-one, pow-suc, one-add, arith, pow_mono}
use Rattle.std.proofs.Math.Path.{fun_ext}
use Rattle.std.proofs.Math.Nat.{div-eq_of_lt, zero-div}
use Rattle.std.proofs.lemmas.Nat.{shr-shr, div-mul-add, mod-mul-add}
use Rattle.std.proofs.lemmas.Bool.{cases_lt, eqb-true, eqb-false, and_parts, and_from}
use Rattle.gates.specs.Lines.{bit, upto, where_below, every_below}
use Rattle.gates.specs.States.{upto_below, upto_above}

pub bit_first : (m : ℕ) → bit m 0 ≡ (m % 2 == 1)
unfolding bit
bit_first m = ap (λ (x : ℕ). nat_eq (x % 2) 1) (div-one m)

pub bit_next : (m i : ℕ) → bit m (suc i) ≡ bit (m / 2) i
unfolding bit
bit_next m i = ap (λ (x : ℕ). nat_eq (x % 2) 1) (ap (λ (x : ℕ). m / 2 ^ x) (sym (one-add i)) ∙ sym (shr-shr m 1 i))

pub bit_none : (i : ℕ) → bit 0 i ≡ false
unfolding bit
bit_none i = ap (λ (x : ℕ). nat_eq (x % 2) 1) (zero-div (2 ^ i))

pub bit_above : (a n i : ℕ) → a < 2 ^ n → n ≤ i → bit a i ≡ false
unfolding bit
bit_above a n i lt le = ap (λ (x : ℕ). nat_eq (x % 2) 1) (div-eq_of_lt {n = a} {m = 2 ^ i} (omega (arith, pow_mono le)))

digit : Bool → ℕ
digit b = cond b 1 0

digit_lt : (b : Bool) → cond b 1 0 < 2
digit_lt true = omega arith
digit_lt false = omega arith

digit_is : (b : Bool) → (cond b 1 0 == 1) ≡ b
digit_is true = refl
digit_is false = refl

pub bit_where_first : (n : ℕ) (P : ℕ → Bool) → bit (where_below (suc n) P) 0 ≡ P 0
unfolding where_below
bit_where_first n P =
    bit_first _ ∙ ap (λ (x : ℕ). nat_eq x 1) (mod-mul-add (where_below n (λ i. P (suc i))) 2 (cond (P 0) 1 0) (digit_lt (P 0))) ∙ digit_is (P 0)

pub bit_where_next : (n : ℕ) (P : ℕ → Bool) (i : ℕ) → bit (where_below (suc n) P) (suc i) ≡ bit (where_below n (λ j. P (suc j))) i
unfolding where_below
bit_where_next n P i =
    bit_next _ i ∙ ap (λ (x : ℕ). bit x i) (div-mul-add (where_below n (λ j. P (suc j))) 2 (cond (P 0) 1 0) (digit_lt (P 0)))

pub bit_where : (n : ℕ) (P : ℕ → Bool) (i : ℕ) → i < n → bit (where_below n P) i ≡ P i
bit_where zero P i h = absurd (let z : ⊥ = omega arith in z)
bit_where (suc n) P zero h = bit_where_first n P
bit_where (suc n) P (suc i) h = bit_where_next n P i ∙ bit_where n (λ j. P (suc j)) i (omega arith)

pub where_lt : (n : ℕ) (P : ℕ → Bool) → where_below n P < 2 ^ n
unfolding where_below
where_lt zero P = omega arith
where_lt (suc n) P = omega (arith, where_lt n (λ i. P (suc i)), digit_lt (P 0), pow-suc 2 n)

-- the members are those below n of which P holds
pub bits_where : (n : ℕ) (P : ℕ → Bool) → bit (where_below n P) ≡ upto n P (λ _. false)
bits_where n P = fun_ext λ i. at i (cases_lt i n)
  where
    at : (i : ℕ) → (i < n) ⊎ (n ≤ i) → bit (where_below n P) i ≡ upto n P (λ _. false) i
    at i (inl lt) = bit_where n P i lt ∙ sym (upto_below n P (λ _. false) i lt)
    at i (inr ge) = bit_above (where_below n P) n i (where_lt n P) ge ∙ sym (upto_above n P (λ _. false) i ge)

parity : (a b : ℕ) → (a % 2 == 1) ≡ (b % 2 == 1) → a % 2 ≡ b % 2
parity a b e = by (a % 2 == 1) refl
  where
    by : (t : Bool) → (a % 2 == 1) ≡ t → a % 2 ≡ b % 2
    by true h = omega (arith, eqb-true (a % 2) 1 h, eqb-true (b % 2) 1 (sym e ∙ h))
    by false h = omega (arith, eqb-false (a % 2) 1 h, eqb-false (b % 2) 1 (sym e ∙ h))

-- sets with the same members are equal
pub set_ext : (n a b : ℕ) → a < 2 ^ n → b < 2 ^ n → ((i : ℕ) → i < n → bit a i ≡ bit b i) → a ≡ b
set_ext zero a b la lb h = omega arith
set_ext (suc n) a b la lb h =
    let low : a % 2 ≡ b % 2 = parity a b (sym (bit_first a) ∙ h 0 (omega arith) ∙ bit_first b) in
    let high : a / 2 ≡ b / 2 = set_ext n (a / 2) (b / 2) (omega (arith, pow-suc 2 n)) (omega (arith, pow-suc 2 n)) (λ i lt. sym (bit_next a i) ∙ h (suc i) (omega arith) ∙ bit_next b i) in
    omega arith

-- a set with no member from n on is below 2 to the n
pub where_lt_of : (w n : ℕ) (P : ℕ → Bool) → n ≤ w → ((i : ℕ) → n ≤ i → P i ≡ false) → where_below w P < 2 ^ n
where_lt_of w n P le above =
    subst (λ (x : ℕ). x < 2 ^ n) (set_ext w (where_below n P) (where_below w P) (omega (arith, where_lt n P, pow_mono le)) (where_lt w P) (λ i lt. at i lt (cases_lt i n))) (where_lt n P)
  where
    at : (i : ℕ) → i < w → (i < n) ⊎ (n ≤ i) → bit (where_below n P) i ≡ bit (where_below w P) i
    at i lt (inl h) = bit_where n P i h ∙ sym (bit_where w P i lt)
    at i lt (inr h) = bit_above (where_below n P) n i (where_lt n P) h ∙ sym (bit_where w P i lt ∙ above i h)

pub every_same : (n : ℕ) (P Q : ℕ → Bool) → ((i : ℕ) → i < n → P i ≡ Q i) → every_below n P ≡ every_below n Q
unfolding every_below
every_same zero P Q h = refl
every_same (suc n) P Q h = ap (λ (b : Bool). b && every_below n P) (h n (omega arith)) ∙ ap (λ (b : Bool). Q n && b) (every_same n P Q (λ i lt. h i (omega arith)))

pub every_at : (n : ℕ) (P : ℕ → Bool) → every_below n P ≡ true → (i : ℕ) → i < n → P i ≡ true
unfolding every_below
every_at zero P h i lt = absurd (let z : ⊥ = omega arith in z)
every_at (suc n) P h i lt = at (cases_lt i n) (every_at n P (and_parts (P n) (every_below n P) h).1 i)
  where
    at : (i < n) ⊎ (n ≤ i) → (i < n → P i ≡ true) → P i ≡ true
    at (inl l) rest = rest l
    at (inr g) rest = subst (λ (x : ℕ). P x ≡ true) (let e : n ≡ i = omega arith in e) (and_parts (P n) (every_below n P) h).0

pub every_of : (n : ℕ) (P : ℕ → Bool) → ((i : ℕ) → i < n → P i ≡ true) → every_below n P ≡ true
unfolding every_below
every_of zero P h = refl
every_of (suc n) P h = and_from (P n) (every_below n P) (h n (omega arith)) (every_of n P (λ i lt. h i (omega arith)))
