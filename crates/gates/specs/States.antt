-- Values of lines in states, and lines in tables.
use Rattle.std.specs.Prelude.{◌≡◌, ℕ, suc, ◌<◌, ◌≤◌, Bool, true, false, cond, not, ◌⊎◌, List, [], ◌∷◌, map, length, ◌≢◌, nat_lt, slice_index, refl}
use Rattle.std.proofs.Common.{sym, ap, ◌∙◌, subst, inl, inr, arith}
use Rattle.std.proofs.Math.Path.{fun_ext}
use Rattle.std.specs.Bool.{beq}
use Rattle.std.proofs.lemmas.List.{get_or-map, get_or_past, length-map}
use Rattle.std.proofs.lemmas.Bool.{cases_eq, eq-eqb, ne_eqb, lt-ltb, le-ltb}
use Rattle.gates.specs.Lines.{State, with_line_lem, upto, bit, inverted_if, inverted, through, Outside}

-- a line's value after one line is set
pub with_here : (s : State) (l : ℕ) (v : Bool) → with_line_lem s l v l ≡ v
with_here s l v = ap (λ (b : Bool). cond b v (s l)) (eq-eqb l l refl)

pub with_there : (s : State) (l i : ℕ) (v : Bool) → (i ≢ l) → with_line_lem s l v i ≡ s i
with_there s l i v ne = ap (λ (b : Bool). cond b v (s i)) (ne_eqb i l ne)

pub with_own : (s : State) (l : ℕ) → with_line_lem s l (s l) ≡ s
with_own s l = fun_ext λ i. at i (cases_eq i l)
  where
    at : (i : ℕ) → (i ≡ l) ⊎ (i ≢ l) → with_line_lem s l (s l) i ≡ s i
    at i (inl e) = subst (λ (j : ℕ). with_line_lem s l (s l) j ≡ s j) (sym e) (with_here s l (s l))
    at i (inr ne) = with_there s l i (s l) ne

pub upto_below : (n : ℕ) (s u : State) (i : ℕ) → i < n → upto n s u i ≡ s i
upto_below n s u i h = ap (λ (b : Bool). cond b (s i) (u i)) (lt-ltb i n h)

pub upto_above : (n : ℕ) (s u : State) (i : ℕ) → n ≤ i → upto n s u i ≡ u i
upto_above n s u i h = ap (λ (b : Bool). cond b (s i) (u i)) (le-ltb i n h)

pub upto_own : (n : ℕ) (s : State) → upto n s s ≡ s
upto_own n s = fun_ext λ i. elim (nat_lt i n) as (λ b. cond b (s i) (s i) ≡ s i) [ true ↦ refl | false ↦ refl ]

pub inverted_if_twice : (b v : Bool) → inverted_if b (inverted_if b v) ≡ v
inverted_if_twice true true = refl
inverted_if_twice true false = refl
inverted_if_twice false v = refl

pub inverted_if_both : (a b v : Bool) → inverted_if a (inverted_if b v) ≡ inverted_if b (inverted_if a v)
inverted_if_both true true v = refl
inverted_if_both true false v = refl
inverted_if_both false b v = refl

pub inverted_twice : (f : ℕ) (s : State) → inverted f (inverted f s) ≡ s
inverted_twice f s = fun_ext λ i. inverted_if_twice (bit f i) (s i)

pub opposite : (v : Bool) → not v ≢ v
opposite true e = let z : ◌≡◌ {A = ℕ} 0 1 = cc in omega arith
opposite false e = let z : ◌≡◌ {A = ℕ} 0 1 = cc in omega arith

-- values that are compared
pub beq_same : (x y : Bool) → beq x y ≡ true → x ≡ y
beq_same true true e = refl
beq_same true false e = sym e
beq_same false true e = e
beq_same false false e = refl

pub beq_other : (x y : Bool) → beq x y ≡ false → x ≢ y
beq_other true true e q = let z : ◌≡◌ {A = ℕ} 0 1 = cc in omega arith
beq_other true false e q = let z : ◌≡◌ {A = ℕ} 0 1 = cc in omega arith
beq_other false true e q = let z : ◌≡◌ {A = ℕ} 0 1 = cc in omega arith
beq_other false false e q = let z : ◌≡◌ {A = ℕ} 0 1 = cc in omega arith

-- a line stands in a table or outside it
pub in_or_out : (t : List ℕ) (j : ℕ) → ((i : ℕ) × (i < length t) × (slice_index t i ≡ j)) ⊎ Outside t j
in_or_out [] j = inr tt
in_or_out (x ∷ t) j = here (cases_eq x j) (in_or_out t j)
  where
    here : (x ≡ j) ⊎ (x ≢ j) → ((i : ℕ) × (i < length t) × (slice_index t i ≡ j)) ⊎ Outside t j → ((i : ℕ) × (i < length (x ∷ t)) × (slice_index (x ∷ t) i ≡ j)) ⊎ Outside (x ∷ t) j
    here (inl e) r = inl (0, omega arith, e)
    here (inr ne) (inl (i, h, e)) = inl (suc i, omega arith, e)
    here (inr ne) (inr out) = inr (ne, out)

pub through_at : (t : List ℕ) (s : State) (i : ℕ) → i < length t → through t s i ≡ s (slice_index t i)
through_at t s i h = get_or-map s t i 0 false h

pub through_past : (t : List ℕ) (s : State) (i : ℕ) → length t ≤ i → through t s i ≡ false
through_past t s i h = get_or_past (map s t) i false (omega (arith, length-map t s))

-- a line outside the table is not seen through it
pub through_with : (t : List ℕ) (s : State) (j : ℕ) (v : Bool) → Outside t j → map (with_line_lem s j v) t ≡ map s t
through_with [] s j v out = refl
through_with (x ∷ t) s j v out = ap (λ (b : Bool). b ∷ map (with_line_lem s j v) t) (with_there s j x v out.0) ∙ ap (λ (r : List Bool). s x ∷ r) (through_with t s j v out.1)
