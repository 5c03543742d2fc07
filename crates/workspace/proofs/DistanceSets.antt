-- Sets of numbers, as a loop makes them, and as they are compared.
use Rattle.std.proofs.Common.{◌≡◌, ℕ, ◌+◌, ◌-◌, ◌^◌, ◌<◌, ◌≤◌, Bool, true, false, not, ◌&&◌, ◌||◌, eqb, ltb, ◌⊎◌, set, sym, refl, ap, ◌∙◌, subst, ap₂, inl, inr, arith}
use mathlib.Core.Bool.{beq}
use lib.Bits.{bit_and}
use Rattle.std.proofs.lemmas.Nat.{and_le_l}
use Rattle.std.proofs.lemmas.Bool.{cases_order, lt-ltb, le-ltb, eq-eqb, ne_eqb, eqb-true, and_from, and_right}
use Rattle.gates.specs.Lines.{bit}
use Rattle.gates.specs.Members.{bit_none, set_ext, every_of, every_at}
use Rattle.gates.proofs.Masks.{bit-bit_and, bit_not}
use Rattle.gates.specs.ControlSets.{iff_same}
use Rattle.workspace.specs.Starts.{IsSet, within}

-- the numbers below d of which P holds
abbrev pub Below : (ℕ → Bool) → ℕ → ℕ → Type 0
Below P d set = IsSet set (λ i. ltb i d && P i)

pub below_none : (P : ℕ → Bool) → Below P 0 0
below_none P i l = bit_none i ∙ sym (ap (λ (b : Bool). b && P i) (le-ltb i 0 (omega arith)))

pub below_more : (P : ℕ → Bool) (d set r : ℕ) → Below P d set → P d ≡ true → ((i : ℕ) → i < 64 → bit r i ≡ (eqb i d || bit set i)) → Below P (d + 1) r
below_more P d set r below here added i l = added i l ∙ ap (λ (b : Bool). eqb i d || b) (below i l) ∙ by (cases_order i d)
  where
    by : (i ≡ d) ⊎ ((i < d) ⊎ (d < i)) → (eqb i d || (ltb i d && P i)) ≡ (ltb i (d + 1) && P i)
    by (inl e) = ap (λ (b : Bool). b || (ltb i d && P i)) (eq-eqb i d e) ∙ sym (and_from (ltb i (d + 1)) (P i) (lt-ltb i (d + 1) (omega arith)) (ap P e ∙ here))
    by (inr (inl lt)) =
        ap₂ (λ (x y : Bool). x || (y && P i)) (ne_eqb i d (λ e. omega arith)) (lt-ltb i d lt) ∙ sym (ap (λ (b : Bool). b && P i) (lt-ltb i (d + 1) (omega arith)))
    by (inr (inr gt)) =
        ap₂ (λ (x y : Bool). x || (y && P i)) (ne_eqb i d (λ e. omega arith)) (le-ltb i d (omega arith)) ∙ sym (ap (λ (b : Bool). b && P i) (le-ltb i (d + 1) (omega arith)))

pub below_skip : (P : ℕ → Bool) (d set : ℕ) → Below P d set → P d ≡ false → Below P (d + 1) set
below_skip P d set below none i l = below i l ∙ by (cases_order i d)
  where
    by : (i ≡ d) ⊎ ((i < d) ⊎ (d < i)) → (ltb i d && P i) ≡ (ltb i (d + 1) && P i)
    by (inl e) = and_right (ltb i d) (P i) (ap P e ∙ none) ∙ sym (and_right (ltb i (d + 1)) (P i) (ap P e ∙ none))
    by (inr (inl lt)) = ap (λ (b : Bool). b && P i) (lt-ltb i d lt ∙ sym (lt-ltb i (d + 1) (omega arith)))
    by (inr (inr gt)) = ap (λ (b : Bool). b && P i) (le-ltb i d (omega arith) ∙ sym (le-ltb i (d + 1) (omega arith)))

pub below_all : (P : ℕ → Bool) (d n set : ℕ) → n ≤ d → d ≤ n → Below P d set → Below P n set
below_all P d n set up down below = let end : d ≡ n = omega arith in subst (λ (m : ℕ). Below P m set) end below

-- the numbers that are in the set just if that is wanted
pub agree_yes : (set : ℕ) (wanted : Bool) → wanted ≡ true → IsSet set (λ i. beq (bit set i) wanted)
agree_yes set wanted e i l = by (bit set i) ∙ ap (beq (bit set i)) (sym e)
  where
    by : (b : Bool) → b ≡ beq b true
    by true = refl
    by false = refl

pub agree_no : (set : ℕ) (wanted : Bool) → set < 2 ^ 64 → wanted ≡ false → IsSet (2 ^ 64 - 1 - set) (λ i. beq (bit set i) wanted)
agree_no set wanted fits e i l = bit_not 64 set i fits l ∙ by (bit set i) ∙ ap (beq (bit set i)) (sym e)
  where
    by : (b : Bool) → not b ≡ beq b false
    by true = refl
    by false = refl

-- no number of the set is outside the other
pub none_outside : (set other : ℕ) → set < 2 ^ 64 → other < 2 ^ 64 → eqb (bit_and set (2 ^ 64 - 1 - other)) 0 ≡ within set other
none_outside set other ls lo = iff_same _ _
    (λ h. every_of 64 (λ i. bit other i || not (bit set i)) (λ i l. one (bit set i) (bit other i) (sym (outside i l) ∙ ap (λ (x : ℕ). bit x i) (eqb-true _ 0 h) ∙ bit_none i)))
    (λ h. eq-eqb _ 0 (set_ext 64 (bit_and set (2 ^ 64 - 1 - other)) 0 (omega (arith, and_le_l set (2 ^ 64 - 1 - other))) (omega arith)
    (λ i l. outside i l ∙ none (bit set i) (bit other i) (every_at 64 (λ i. bit other i || not (bit set i)) h i l) ∙ sym (bit_none i))))
  where
    outside : (i : ℕ) → i < 64 → bit (bit_and set (2 ^ 64 - 1 - other)) i ≡ (bit set i && not (bit other i))
    outside i l = bit-bit_and set (2 ^ 64 - 1 - other) i ∙ ap (λ (b : Bool). bit set i && b) (bit_not 64 other i lo l)

    one : (x y : Bool) → (x && not y) ≡ false → (y || not x) ≡ true
    one true true e = refl
    one true false e = sym e
    one false true e = refl
    one false false e = refl

    none : (x y : Bool) → (y || not x) ≡ true → (x && not y) ≡ false
    none true true e = refl
    none true false e = sym e
    none false true e = refl
    none false false e = refl
