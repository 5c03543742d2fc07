-- What `&`, `|`, `^` and `1 << x` do to the members of a set.
use Rattle.std.proofs.Common.{◌≡◌, ℕ, zero, suc, ◌+◌, ◌-◌, ◌*◌, ◌/◌, ◌%◌, ◌^◌, ◌<◌, ◌≤◌, Bool, true, false, cond, not, ◌&&◌, ◌||◌, eqb, ltb, ◌⊎◌, List, [], ◌∷◌, ◌++◌, length, get_or, take, sym, refl, ap, ◌∙◌, ap₂, inl, inr, pow-suc, arith}
use mathlib.Core.Path.{fun_ext}
use mathlib.Core.Bool.{and-true, and-false, or_comm}
use native.Mathlib.Nat.{div-eq_of_lt}
use lib.Bits.{bit_and, bit_or, bit_xor}
use Rattle.std.proofs.lemmas.Nat.{and_shr, or_shr, xor_shr, and_mod, or_mod, xor_mod, shl-shr, pow-add, pow_below, pow_pos, and_le_l, or_lt, one_shl, and_mask, le-div}
use Rattle.std.proofs.lemmas.List.{take_more, length-take}
use Rattle.std.proofs.lemmas.Bool.{cases_order, cases_lt, cases_eq, eq-eqb, ne_eqb, eqb-true, lt-ltb, le-ltb, not-true, not_from_false}
use Rattle.gates.specs.Lines.{width, bit, inverted_if, where_below}
use Rattle.gates.specs.Controls.{apart, image, renamed_set, exchanged, with_member}
use Rattle.gates.specs.Members.{bit_first, bit_next, bit_none, bit_above, bit_where, where_lt, set_ext, every_of, every_at}
use Rattle.gates.specs.ControlSets.{iff_same}

-- a test of two digits is seen at 0 and 1
digits : (P : ℕ → ℕ → Type 0) → P 0 0 → P 0 1 → P 1 0 → P 1 1 → (x y : ℕ) → P (x % 2) (y % 2)
digits P a b c d x y = at (x % 2) (y % 2) (omega arith) (omega arith)
  where
    at : (u v : ℕ) → u < 2 → v < 2 → P u v
    at zero zero h k = a
    at zero (suc zero) h k = b
    at zero (suc (suc v)) h k = absurd (let z : ⊥ = omega arith in z)
    at (suc zero) zero h k = c
    at (suc zero) (suc zero) h k = d
    at (suc zero) (suc (suc v)) h k = absurd (let z : ⊥ = omega arith in z)
    at (suc (suc u)) v h k = absurd (let z : ⊥ = omega arith in z)

pub bit-bit_and : (a b i : ℕ) → bit (bit_and a b) i ≡ (bit a i && bit b i)
unfolding bit
bit-bit_and a b i =
    ap (λ (x : ℕ). eqb (x % 2) 1) (and_shr a b i) ∙ ap (λ (x : ℕ). eqb x 1) (and_mod (a / 2 ^ i) (b / 2 ^ i) 1)
    ∙ digits (λ u v. eqb (bit_and u v) 1 ≡ (eqb u 1 && eqb v 1)) refl refl refl refl (a / 2 ^ i) (b / 2 ^ i)

pub bit-bit_or : (a b i : ℕ) → bit (bit_or a b) i ≡ (bit a i || bit b i)
unfolding bit
bit-bit_or a b i =
    ap (λ (x : ℕ). eqb (x % 2) 1) (or_shr a b i) ∙ ap (λ (x : ℕ). eqb x 1) (or_mod (a / 2 ^ i) (b / 2 ^ i) 1)
    ∙ digits (λ u v. eqb (bit_or u v) 1 ≡ (eqb u 1 || eqb v 1)) refl refl refl refl (a / 2 ^ i) (b / 2 ^ i)

pub bit-bit_xor : (a b i : ℕ) → bit (bit_xor a b) i ≡ inverted_if (bit b i) (bit a i)
unfolding bit
bit-bit_xor a b i =
    ap (λ (x : ℕ). eqb (x % 2) 1) (xor_shr a b i) ∙ ap (λ (x : ℕ). eqb x 1) (xor_mod (a / 2 ^ i) (b / 2 ^ i) 1)
    ∙ digits (λ u v. eqb (bit_xor u v) 1 ≡ inverted_if (eqb v 1) (eqb u 1)) refl refl refl refl (a / 2 ^ i) (b / 2 ^ i)

pub bit_power : (x i : ℕ) → bit (2 ^ x) i ≡ eqb i x
unfolding bit
bit_power x i = at (cases_order x i)
  where
    raised : (d : ℕ) → 2 ^ (suc d + i) / 2 ^ i % 2 ≡ 0
    raised d = ap (λ (y : ℕ). y % 2) (ap (λ (y : ℕ). y / 2 ^ i) (pow-add 2 (suc d) i) ∙ shl-shr (2 ^ suc d) i) ∙ ap (λ (y : ℕ). y % 2) (pow-suc 2 d) ∙ omega arith

    at : (x ≡ i) ⊎ ((x < i) ⊎ (i < x)) → eqb (2 ^ x / 2 ^ i % 2) 1 ≡ eqb i x
    at (inl e) =
        ap (λ (y : ℕ). eqb (y % 2) 1) (ap (λ (y : ℕ). 2 ^ y / 2 ^ i) (let w : x ≡ 0 + i = omega arith in w) ∙ ap (λ (y : ℕ). y / 2 ^ i) (pow-add 2 0 i) ∙ shl-shr 1 i)
        ∙ sym (eq-eqb i x (sym e))
    at (inr (inl lt)) = ap (λ (y : ℕ). eqb (y % 2) 1) (div-eq_of_lt {n = 2 ^ x} {m = 2 ^ i} (pow_below x i lt)) ∙ sym (ne_eqb i x (λ e. omega arith))
    at (inr (inr gt)) =
        ap (λ (y : ℕ). eqb y 1) (ap (λ (y : ℕ). 2 ^ y / 2 ^ i % 2) (let w : x ≡ suc (x - suc i) + i = omega arith in w) ∙ raised (x - suc i))
        ∙ sym (ne_eqb i x (λ e. omega arith))

-- the members of `!m`
pub bit_not : (n m i : ℕ) → m < 2 ^ n → i < n → bit (2 ^ n - 1 - m) i ≡ not (bit m i)
bit_not zero m i lm lt = absurd (let z : ⊥ = omega arith in z)
bit_not (suc n) m zero lm lt = bit_first _ ∙ ap (λ (x : ℕ). eqb x 1) odd ∙ digit (m % 2) (omega arith) ∙ ap not (sym (bit_first m))
  where
    odd : (2 ^ suc n - 1 - m) % 2 ≡ 1 - m % 2
    odd = omega (arith, pow-suc 2 n)

    digit : (x : ℕ) → x < 2 → eqb (1 - x) 1 ≡ not (eqb x 1)
    digit zero h = refl
    digit (suc zero) h = refl
    digit (suc (suc x)) h = absurd (let z : ⊥ = omega arith in z)
bit_not (suc n) m (suc i) lm lt =
    bit_next _ i ∙ ap (λ (x : ℕ). bit x i) half ∙ bit_not n (m / 2) i (omega (arith, pow-suc 2 n)) (omega arith) ∙ ap not (sym (bit_next m i))
  where
    half : (2 ^ suc n - 1 - m) / 2 ≡ 2 ^ n - 1 - m / 2
    half = omega (arith, pow-suc 2 n)

-- what the functions on sets compute
pub test_bit : (set line : ℕ) → eqb (bit_and (set / 2 ^ line) 1) 1 ≡ bit set line
unfolding bit
test_bit set line = ap (λ (x : ℕ). eqb x 1) (and_mask (set / 2 ^ line) 1)

pub shifted_out : (set lines : ℕ) → eqb (set / 2 ^ lines) 0 ≡ ltb set (2 ^ lines)
shifted_out set lines = at (cases_lt set (2 ^ lines))
  where
    at : (set < 2 ^ lines) ⊎ (2 ^ lines ≤ set) → eqb (set / 2 ^ lines) 0 ≡ ltb set (2 ^ lines)
    at (inl lt) = eq-eqb _ 0 (div-eq_of_lt {n = set} {m = 2 ^ lines} lt) ∙ sym (lt-ltb set (2 ^ lines) lt)
    at (inr ge) = ne_eqb _ 0 (λ e. omega (arith, le-div 1 set (2 ^ lines) (pow_pos lines) (omega arith))) ∙ sym (le-ltb set (2 ^ lines) ge)

pub none_common : (p q : ℕ) → p < 2 ^ width → eqb (bit_and p q) 0 ≡ apart p q
unfolding apart
none_common p q lp = iff_same _ _
    (λ h. every_of width _ (λ i lt. not_from_false _ (sym (bit-bit_and p q i) ∙ ap (λ (x : ℕ). bit x i) (eqb-true _ 0 h) ∙ bit_none i)))
    (λ h. eq-eqb _ 0 (set_ext width (bit_and p q) 0 (omega (arith, and_le_l p q)) (omega arith)
    (λ i lt. bit-bit_and p q i ∙ not-true _ (every_at width (λ i. not (bit p i && bit q i)) h i lt) ∙ sym (bit_none i))))

pub line_added : (set line : ℕ) → set < 2 ^ width → line < width → bit_or set ((1 * 2 ^ line) % 2 ^ width) ≡ with_member line set
line_added set line ls lt =
    set_ext width _ _ (or_lt width set _ ls (omega (arith, one_shl line width lt, pow_below line width lt))) (where_lt width (λ i. eqb i line || bit set i))
    (λ i il.
    bit-bit_or set _ i ∙ ap (λ (b : Bool). bit set i || b) (ap (λ (x : ℕ). bit x i) (one_shl line width lt) ∙ bit_power line i) ∙ or_comm (bit set i) (eqb i line)
    ∙ sym (bit_where width (λ i. eqb i line || bit set i) i il))

pub line_beyond : (set line : ℕ) → set < 2 ^ width → width ≤ line → set ≡ with_member line set
line_beyond set line ls ge =
    set_ext width _ _ ls (where_lt width (λ i. eqb i line || bit set i))
    (λ i il. sym (bit_where width (λ i. eqb i line || bit set i) i il ∙ ap (λ (b : Bool). b || bit set i) (ne_eqb i line (λ e. omega arith))))

pub chosen_exchanged : (f set other : ℕ) → f < 2 ^ width → set < 2 ^ width → other < 2 ^ width
    → bit_or (bit_and set (2 ^ width - 1 - f)) (bit_and other f) ≡ exchanged f set other
chosen_exchanged f set other lf ls lo =
    set_ext width _ _
    (or_lt width _ _ (let h : bit_and set (2 ^ width - 1 - f) < 2 ^ width = omega (arith, and_le_l set (2 ^ width - 1 - f)) in h) (let h : bit_and other f < 2 ^ width = omega (arith, and_le_l other f) in h))
    (where_lt width (λ i. cond (bit f i) (bit other i) (bit set i)))
    (λ i il.
    bit-bit_or _ _ i
    ∙ ap₂ ◌||◌ (bit-bit_and set _ i ∙ ap (λ (b : Bool). bit set i && b) (bit_not width f i lf il)) (bit-bit_and other f i)
    ∙ either (bit f i) (bit set i) (bit other i)
    ∙ sym (bit_where width (λ i. cond (bit f i) (bit other i) (bit set i)) i il))
  where
    either : (b x y : Bool) → ((x && not b) || (y && b)) ≡ cond b y x
    either true true true = refl
    either true true false = refl
    either true false true = refl
    either true false false = refl
    either false true true = refl
    either false true false = refl
    either false false true = refl
    either false false false = refl

-- the image under a table that is one entry longer
image_push : (t : List ℕ) (x : ℕ) (P : ℕ → Bool) (j : ℕ) → image (t ++ x ∷ []) P j ≡ ((eqb x j && P (length t)) || image t P j)
image_push [] x P j = refl
image_push (y ∷ t) x P j =
    ap (λ (b : Bool). (eqb y j && P 0) || b) (image_push t x (λ i. P (suc i)) j) ∙ either (eqb y j && P 0) (eqb x j && P (suc (length t))) (image t (λ i. P (suc i)) j)
  where
    either : (a b c : Bool) → (a || (b || c)) ≡ (b || (a || c))
    either true true c = refl
    either true false c = refl
    either false true c = refl
    either false false c = refl

pub image_more : (t : List ℕ) (i : ℕ) (P : ℕ → Bool) (j : ℕ) → i < length t → image (take (i + 1) t) P j ≡ ((eqb (get_or t i 0) j && P i) || image (take i t) P j)
image_more t i P j lt =
    ap (λ (u : List ℕ). image u P j) (take_more t i 0 lt) ∙ image_push (take i t) (get_or t i 0) P j
    ∙ ap (λ (m : ℕ). (eqb (get_or t i 0) j && P m) || image (take i t) P j) (let e : length (take i t) ≡ i = omega (arith, length-take i t) in e)

-- entries from n on do not matter where P holds of none of their places
image_cut : (t : List ℕ) (n : ℕ) (P : ℕ → Bool) (j : ℕ) → ((i : ℕ) → n ≤ i → P i ≡ false) → image (take n t) P j ≡ image t P j
image_cut [] zero P j none = refl
image_cut [] (suc n) P j none = refl
image_cut (x ∷ t) zero P j none =
    image_cut t zero (λ i. P (suc i)) j (λ i le. none (suc i) (omega arith)) ∙ ap (λ (b : Bool). b || image t (λ i. P (suc i)) j) (sym (ap (λ (b : Bool). eqb x j && b) (none 0 (omega arith)) ∙ and-false (eqb x j)))
image_cut (x ∷ t) (suc n) P j none = ap (λ (b : Bool). (eqb x j && P 0) || b) (image_cut t n (λ i. P (suc i)) j (λ i le. none (suc i) (omega arith)))

-- the set that renaming has made so far, line by line
pub renamed_none : (m : ℕ) → 0 ≡ renamed_set [] m
renamed_none m = set_ext width 0 _ (omega arith) (where_lt width (image [] (bit m))) (λ i lt. bit_none i ∙ sym (bit_where width (image [] (bit m)) i lt))

module _ (t : List ℕ) (m i : ℕ) where
  pub renamed_more : i < length t → bit m i ≡ true → with_member (get_or t i 0) (renamed_set (take i t) m) ≡ renamed_set (take (i + 1) t) m
  renamed_more lt e =
      set_ext width _ _ (where_lt width (λ j. eqb j (get_or t i 0) || bit (renamed_set (take i t) m) j)) (where_lt width (image (take (i + 1) t) (bit m)))
      (λ j jl.
      bit_where width (λ j. eqb j (get_or t i 0) || bit (renamed_set (take i t) m) j) j jl
      ∙ ap (λ (b : Bool). eqb j (get_or t i 0) || b) (bit_where width (image (take i t) (bit m)) j jl)
      ∙ ap (λ (b : Bool). b || image (take i t) (bit m) j) (turned j ∙ sym (ap (λ (b : Bool). eqb (get_or t i 0) j && b) e ∙ and-true (eqb (get_or t i 0) j)))
      ∙ sym (image_more t i (bit m) j lt)
      ∙ sym (bit_where width (image (take (i + 1) t) (bit m)) j jl))
    where
      turned : (j : ℕ) → eqb j (get_or t i 0) ≡ eqb (get_or t i 0) j
      turned j = at (cases_eq j (get_or t i 0))
        where
          at : (j ≡ get_or t i 0) ⊎ (j ≡ get_or t i 0 → ⊥) → eqb j (get_or t i 0) ≡ eqb (get_or t i 0) j
          at (inl q) = eq-eqb _ _ q ∙ sym (eq-eqb _ _ (sym q))
          at (inr ne) = ne_eqb _ _ ne ∙ sym (ne_eqb _ _ (λ q. ne (sym q)))

  pub renamed_skip : i < length t → bit m i ≡ false → renamed_set (take i t) m ≡ renamed_set (take (i + 1) t) m
  renamed_skip lt e =
      ap (where_below width) (fun_ext λ j. sym (image_more t i (bit m) j lt ∙ ap (λ (b : Bool). b || image (take i t) (bit m) j) (ap (λ (b : Bool). eqb (get_or t i 0) j && b) e ∙ and-false (eqb (get_or t i 0) j))))

pub renamed_whole : (t : List ℕ) (m : ℕ) → m < 2 ^ width → renamed_set (take width t) m ≡ renamed_set t m
renamed_whole t m lm = ap (where_below width) (fun_ext λ j. image_cut t width (bit m) j (λ i le. bit_above m width i lm le))
