-- Sets of numbers below 64.
use Rattle.std.proofs.Common.{◌≡◌, ◌≢◌, ℕ, zero, suc, ◌-◌, ◌*◌, ◌%◌, ◌^◌, ◌<◌, ◌≤◌, Bool, true, false, cond, not, ◌||◌, eqb, ltb, List, [], ◌∷◌, ◌++◌, sym, refl, ap, ap₂, ◌∙◌, ⊎_elim, w64, arith}
use lib.Bits.{bit_or, bit_xor}
use lib.Count.{count_trailing_zeros}
use Rattle.std.proofs.Math.Bool.{or_comm}
use Rattle.std.proofs.lemmas.Nat.{one_shl, pow_pos}
use Rattle.std.proofs.lemmas.Nat.Bits.{bit_at-trailing_zeros}
use Rattle.std.proofs.lemmas.Bool.{cases_lt, lt-ltb, le-ltb, eq-eqb, ne_eqb}
use Rattle.gates.specs.Lines.{bit, inverted_if}
use Rattle.gates.specs.Members.{bit_above, bit_none}
use Rattle.gates.proofs.Masks.{bit-bit_or, bit-bit_xor, bit_power, bit_not}
use Rattle.search.specs.Sets.{numbers_under, numbers_in}

pub number_added : (set number i : ℕ) → number < 64 → bit (bit_or set ((1 * 2 ^ number) % 2 ^ 64)) i ≡ (eqb i number || bit set i)
number_added set number i l =
    bit-bit_or set ((1 * 2 ^ number) % 2 ^ 64) i
    ∙ ap (λ (x : ℕ). bit set i || bit x i) (one_shl number 64 l)
    ∙ ap (λ (t : Bool). bit set i || t) (bit_power number i)
    ∙ or_comm (bit set i) (eqb i number)

pub number_beyond : (set number i : ℕ) → 64 ≤ number → i < 64 → bit set i ≡ (eqb i number || bit set i)
number_beyond set number i h l = sym (ap (λ (t : Bool). t || bit set i) (ne_eqb i number (λ e. omega arith)))

full : (i : ℕ) → i < 64 → bit 18446744073709551615 i ≡ true
full i l = bit_not 64 0 i (omega arith) l ∙ ap not (bit_none i)

pub below_all : (count i : ℕ) → 64 ≤ count → i < 64 → bit 18446744073709551615 i ≡ ltb i count
below_all count i h l = full i l ∙ sym (lt-ltb i count (omega arith))

pub below_some : (count i : ℕ) → count < 64 → bit ((1 * 2 ^ count) % 2 ^ 64 - 1) i ≡ ltb i count
below_some count i h =
    let whole : 2 ^ count - 1 ≡ 2 ^ count - 1 - 0 = omega arith in
    ap (λ (x : ℕ). bit (x - 1) i) (one_shl count 64 h)
    ∙ ⊎_elim
    (λ (l : i < count). ap (λ (x : ℕ). bit x i) whole ∙ bit_not count 0 i (pow_pos count) l ∙ ap not (bit_none i) ∙ sym (lt-ltb i count l))
    (λ (l : count ≤ i). bit_above (2 ^ count - 1) count i (omega (arith, pow_pos count)) l ∙ sym (le-ltb i count l))
    (cases_lt i count)

-- one number more, where the test holds
abbrev more_by : ℕ → List ℕ → Bool → List ℕ
more_by n ys t = ys ++ cond t (n ∷ []) []

-- where the set has none of the numbers below n
none_under : (set n : ℕ) → ((i : ℕ) → i < n → bit set i ≡ false) → numbers_under set n ≡ []
unfolding numbers_under
none_under set zero none = refl
none_under set (suc n) none = ap₂ (more_by n) (none_under set n (λ i l. none i (omega arith))) (none n (omega arith))

-- a set without its lowest number
module _ (set : ℕ) (more : 0 < set) (fits : set < 2 ^ 64) where
  abbrev lowest : ℕ
  lowest = count_trailing_zeros 64 set

  abbrev others : ℕ
  others = bit_xor set ((1 * 2 ^ lowest) % 2 ^ 64)

  lowest_there : bit set lowest ≡ true
  unfolding bit
  lowest_there = ap (λ (x : ℕ). eqb x 1) (bit_at-trailing_zeros w64 set more fits).1

  lower_clear : (i : ℕ) → i < lowest → bit set i ≡ false
  unfolding bit
  lower_clear i l = ap (λ (x : ℕ). eqb x 1) ((bit_at-trailing_zeros w64 set more fits).2 i l)

  lowest_below : lowest < 64
  lowest_below = (bit_at-trailing_zeros w64 set more fits).0

  bit_others : (i : ℕ) → bit others i ≡ inverted_if (eqb i lowest) (bit set i)
  bit_others i =
      bit-bit_xor set ((1 * 2 ^ lowest) % 2 ^ 64) i
      ∙ ap (λ (x : ℕ). inverted_if (bit x i) (bit set i)) (one_shl lowest 64 lowest_below)
      ∙ ap (λ (t : Bool). inverted_if t (bit set i)) (bit_power lowest i)

  others_gone : bit others lowest ≡ false
  others_gone = bit_others lowest ∙ ap (λ (t : Bool). inverted_if t (bit set lowest)) (eq-eqb lowest lowest refl) ∙ ap not lowest_there

  others_kept : (i : ℕ) → i ≢ lowest → bit others i ≡ bit set i
  others_kept i ne = bit_others i ∙ ap (λ (t : Bool). inverted_if t (bit set i)) (ne_eqb i lowest ne)

  first_at : (n : ℕ) → n ≡ lowest → numbers_under set (suc n) ≡ lowest ∷ numbers_under others (suc n)
  unfolding numbers_under
  first_at n e =
      ap₂ (more_by n) (none_under set n (λ i l. lower_clear i (omega arith))) (ap (bit set) e ∙ lowest_there)
      ∙ ap₂ (λ (x : ℕ) (ys : List ℕ). x ∷ ys) e (sym (ap₂ (more_by n) (none_under others n (λ i l. others_kept i (λ h. omega arith) ∙ lower_clear i (omega arith))) (ap (bit others) e ∙ others_gone)))

  first_under : (n : ℕ) → lowest < n → numbers_under set n ≡ lowest ∷ numbers_under others n
  unfolding numbers_under
  first_under zero l = absurd (omega arith)
  first_under (suc n) l =
      ⊎_elim
      (λ (h : lowest < n). ap₂ (more_by n) (first_under n h) (sym (others_kept n (λ e. omega arith))))
      (λ (h : n ≤ lowest). first_at n (omega arith))
      (cases_lt lowest n)

  pub lowest_first : numbers_in set ≡ lowest ∷ numbers_in others
  lowest_first = first_under 64 lowest_below

-- the set of no numbers
pub none_in : numbers_in 0 ≡ []
none_in = none_under 0 64 (λ i l. bit_none i)
