-- What the code that runs a gate computes.
use Rattle.std.proofs.Common.{◌≡◌, ℕ, ◌*◌, ◌%◌, ◌^◌, ◌<◌, Bool, true, false, cond, not, ◌&&◌, eqb, ◌⊎◌, sym, refl, ap, ◌∙◌, ap₂, inl, inr, arith}
use mathlib.Core.Path.{fun_ext}
use lib.Bits.{bit_and, bit_xor}
use Rattle.std.proofs.lemmas.Nat.{and_le_r, one_shl}
use Rattle.std.proofs.lemmas.Bool.{cases_eq, eq-eqb, ne_eqb, eqb-true, and_parts, and_from}
use Rattle.gates.specs.Lines.{width, bit, inverted_if}
use Rattle.gates.specs.Controls.{allows, controls_hold}
use Rattle.gates.specs.Fredkin.{other, swapped}
use Rattle.gates.specs.Members.{bit_none, set_ext, every_of, every_at}
use Rattle.gates.specs.ControlSets.{iff_same}
use Rattle.gates.proofs.Masks.{bit-bit_and, bit-bit_xor, bit_power}

-- the test of a state against the two sets
pub hold_test : (p q s : ℕ) → p < 2 ^ width → q < 2 ^ width → (eqb (bit_and s p) p && eqb (bit_and s q) 0) ≡ controls_hold p q (bit s)
unfolding controls_hold
hold_test p q s lp lq = iff_same _ _
    (λ h.
    let both = and_parts _ _ h in
    every_of width _ (λ i lt. to (bit p i) (bit q i) (bit s i)
    (sym (bit-bit_and s p i) ∙ ap (λ (x : ℕ). bit x i) (eqb-true _ p both.0)) (sym (bit-bit_and s q i) ∙ ap (λ (x : ℕ). bit x i) (eqb-true _ 0 both.1) ∙ bit_none i)))
    (λ h.
    let each = λ (i : ℕ) (lt : i < width). of (bit p i) (bit q i) (bit s i) (every_at width (λ i. allows (bit p i) (bit q i) (bit s i)) h i lt) in
    and_from _ _
    (eq-eqb _ p (set_ext width (bit_and s p) p (omega (arith, and_le_r s p)) lp (λ i lt. bit-bit_and s p i ∙ (each i lt).0)))
    (eq-eqb _ 0 (set_ext width (bit_and s q) 0 (omega (arith, and_le_r s q)) (omega arith) (λ i lt. bit-bit_and s q i ∙ (each i lt).1 ∙ sym (bit_none i)))))
  where
    to : (x y v : Bool) → (v && x) ≡ x → (v && y) ≡ false → allows x y v ≡ true
    to true true true e d = sym d
    to true true false e d = e
    to true false true e d = refl
    to true false false e d = e
    to false true true e d = sym d
    to false true false e d = refl
    to false false v e d = refl

    of : (x y v : Bool) → allows x y v ≡ true → ((v && x) ≡ x) × ((v && y) ≡ false)
    of true true true e = (refl, sym e)
    of true true false e = (e, refl)
    of true false true e = (refl, refl)
    of true false false e = (e, refl)
    of false true true e = (refl, sym e)
    of false true false e = (refl, refl)
    of false false true e = (refl, refl)
    of false false false e = (refl, refl)

-- the state with one line inverted
pub one_inverted : (s a i : ℕ) → a < width → bit (bit_xor s ((1 * 2 ^ a) % 2 ^ width)) i ≡ inverted_if (eqb i a) (bit s i)
one_inverted s a i lt =
    ap (λ (x : ℕ). bit (bit_xor s x) i) (one_shl a width lt) ∙ bit-bit_xor s (2 ^ a) i ∙ ap (λ (b : Bool). inverted_if b (bit s i)) (bit_power a i)

-- lines of one value are exchanged already
pub swapped_same : (s a b : ℕ) → bit s a ≡ bit s b → bit s ≡ swapped a b (bit s)
swapped_same s a b e = fun_ext λ i. sym (at i (cases_eq i a) (cases_eq i b))
  where
    at : (i : ℕ) → (i ≡ a) ⊎ (i ≡ a → ⊥) → (i ≡ b) ⊎ (i ≡ b → ⊥) → bit s (other a b i) ≡ bit s i
    at i (inl p) q = ap (λ (x : Bool). bit s (cond x b (cond (eqb i b) a i))) (eq-eqb i a p) ∙ sym e ∙ ap (bit s) (sym p)
    at i (inr n) (inl q) = ap₂ (λ (x y : Bool). bit s (cond x b (cond y a i))) (ne_eqb i a n) (eq-eqb i b q) ∙ e ∙ ap (bit s) (sym q)
    at i (inr n) (inr m) = ap₂ (λ (x y : Bool). bit s (cond x b (cond y a i))) (ne_eqb i a n) (ne_eqb i b m)

-- lines of different values are both inverted
pub swapped_other : (s a b : ℕ) → a < width → b < width → (bit s a ≡ bit s b → ⊥)
    → bit (bit_xor (bit_xor s ((1 * 2 ^ a) % 2 ^ width)) ((1 * 2 ^ b) % 2 ^ width)) ≡ swapped a b (bit s)
swapped_other s a b la lb ne = fun_ext λ i.
    one_inverted (bit_xor s ((1 * 2 ^ a) % 2 ^ width)) b i lb ∙ ap (inverted_if (eqb i b)) (one_inverted s a i la) ∙ at i (cases_eq i a) (cases_eq i b)
  where
    opposed : (x y : Bool) → (x ≡ y → ⊥) → not x ≡ y
    opposed true true n = absurd (n refl)
    opposed true false n = refl
    opposed false true n = refl
    opposed false false n = absurd (n refl)

    at : (i : ℕ) → (i ≡ a) ⊎ (i ≡ a → ⊥) → (i ≡ b) ⊎ (i ≡ b → ⊥) → inverted_if (eqb i b) (inverted_if (eqb i a) (bit s i)) ≡ bit s (other a b i)
    at i (inl p) (inl q) = absurd (ne (ap (bit s) (sym p ∙ q)))
    at i (inl p) (inr m) =
        ap₂ (λ (x y : Bool). inverted_if x (inverted_if y (bit s i))) (ne_eqb i b m) (eq-eqb i a p) ∙ ap (λ (x : ℕ). not (bit s x)) p ∙ opposed _ _ ne
        ∙ sym (ap (λ (x : Bool). bit s (cond x b (cond (eqb i b) a i))) (eq-eqb i a p))
    at i (inr n) (inl q) =
        ap₂ (λ (x y : Bool). inverted_if x (inverted_if y (bit s i))) (eq-eqb i b q) (ne_eqb i a n) ∙ ap (λ (x : ℕ). not (bit s x)) q ∙ opposed _ _ (λ e. ne (sym e))
        ∙ sym (ap₂ (λ (x y : Bool). bit s (cond x b (cond y a i))) (ne_eqb i a n) (eq-eqb i b q))
    at i (inr n) (inr m) =
        ap₂ (λ (x y : Bool). inverted_if x (inverted_if y (bit s i))) (ne_eqb i b m) (ne_eqb i a n)
        ∙ sym (ap₂ (λ (x y : Bool). bit s (cond x b (cond y a i))) (ne_eqb i a n) (ne_eqb i b m))
