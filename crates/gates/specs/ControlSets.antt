-- Two sets of control lines: when they hold, and after renaming, flipping and one more control.
use Rattle.std.specs.Prelude.{◌≡◌, ℕ, zero, suc, ◌+◌, ◌^◌, ◌<◌, ◌≤◌, Bool, true, false, cond, not, ◌&&◌, ◌||◌, eqb, ◌⊎◌, List, [], ◌∷◌, length, ◌==◌, ◌≢◌, slice_index}
use Rattle.std.proofs.Math.Path.{refl, ap, ap₂}
use Rattle.std.proofs.Common.{sym, ◌∙◌, subst, inl, inr, arith, pow_mono}
use Rattle.std.proofs.Math.Bool.{beq}
use Rattle.std.proofs.ByRecursion.{All-get_or, All-weaker, All-from_get_or}
use Rattle.std.proofs.lemmas.Bool.{cases_lt, cases_eq, eq-eqb, ne_eqb, eqb-true, both_ways, or_cases, or_right, leb-true, le-leb, ltb-true, lt-ltb, and_parts, and_from, not-true, not_from_false, or_parts, or_from}
use Rattle.gates.specs.declared.gate.Sign.{Sign}
use Rattle.gates.specs.declared.gate.Sign.TheVariants.{Positive, Negative}
use Rattle.gates.specs.Lines.{State, Table, Outside, width, bit, with_line_lem, upto, inverted, through, every_below, unmoved, counted}
use Rattle.gates.specs.Controls.{control, allows, apart, controls_hold, controls_form, image, renamed_set, exchanged, with_member, wanted, more_positive, more_negative}
use Rattle.gates.specs.Members.{bit_none, bit_where, bit_above, where_lt, where_lt_of, set_ext, every_same, every_at, every_of}
use Rattle.gates.specs.States.{with_here, with_there, upto_below, through_at, in_or_out}

-- one test and another that is true with it
pub iff_same : (a b : Bool) → (a ≡ true → b ≡ true) → (b ≡ true → a ≡ true) → a ≡ b
iff_same true b f g = sym (f refl)
iff_same false true f g = g refl
iff_same false false f g = refl

pub record Sets (n p q : ℕ) : Type 0 where
  pub few : n ≤ width
  pub small_p : p < 2 ^ n
  pub small_q : q < 2 ^ n
  pub disjoint : (i : ℕ) → i < width → (bit p i && bit q i) ≡ false

pub sets_of : (n p q : ℕ) → controls_form n p q ≡ true → Sets n p q
unfolding controls_form apart
sets_of n p q h =
    let h1 = and_parts _ _ h in
    let h2 = and_parts _ _ h1.1 in
    let h3 = and_parts _ _ h2.1 in
    record {
      few = leb-true n width h1.0;
      small_p = ltb-true p (2 ^ n) h2.0;
      small_q = ltb-true q (2 ^ n) h3.0;
      disjoint = λ i lt. not-true _ (every_at width (λ i. not (bit p i && bit q i)) h3.1 i lt);
    }

pub form_of : (n p q : ℕ) → Sets n p q → controls_form n p q ≡ true
unfolding controls_form apart
form_of n p q h =
    and_from _ _ (le-leb n width h.few)
    (and_from _ _ (lt-ltb p (2 ^ n) h.small_p)
    (and_from _ _ (lt-ltb q (2 ^ n) h.small_q) (every_of width _ (λ i lt. not_from_false _ (h.disjoint i lt)))))

-- states that are equal on the controls
pub steady : (p q : ℕ) (s' s : State) → ((i : ℕ) → i < width → (control p q i ≡ false) ⊎ (s' i ≡ s i)) → controls_hold p q s' ≡ controls_hold p q s
unfolding controls_hold
steady p q s' s h = every_same width _ _ (λ i lt. at i (h i lt))
  where
    at : (i : ℕ) → (control p q i ≡ false) ⊎ (s' i ≡ s i) → allows (bit p i) (bit q i) (s' i) ≡ allows (bit p i) (bit q i) (s i)
    at i (inl none) =
        let both = or_parts (bit p i) (bit q i) none in
        ap₂ (λ (x y : Bool). allows x y (s' i)) both.0 both.1 ∙ sym (ap₂ (λ (x y : Bool). allows x y (s i)) both.0 both.1)
    at i (inr e) = ap (allows (bit p i) (bit q i)) e

-- a line that is no control can have any value
pub steady_with : (p q : ℕ) (s : State) (l : ℕ) (v : Bool) → control p q l ≡ false → controls_hold p q (with_line_lem s l v) ≡ controls_hold p q s
steady_with p q s l v e = steady p q (with_line_lem s l v) s (λ i lt. by i (cases_eq i l))
  where
    by : (i : ℕ) → (i ≡ l) ⊎ (i ≢ l) → (control p q i ≡ false) ⊎ (with_line_lem s l v i ≡ s i)
    by i (inl c) = inl (ap (control p q) c ∙ e)
    by i (inr ne) = inr (with_there s l i v ne)

-- the state in which exactly the positive controls are 1
pub ready : (n p q : ℕ) → Sets n p q → controls_hold p q (bit p) ≡ true
unfolding controls_hold
ready n p q h = every_of width _ (λ i lt. at (bit p i) (bit q i) (h.disjoint i lt))
  where
    at : (x y : Bool) → (x && y) ≡ false → allows x y x ≡ true
    at true true e = sym e
    at true false e = refl
    at false true e = refl
    at false false e = refl

-- a control with the other value
pub fails : (p q : ℕ) (s : State) (l : ℕ) → l < width → control p q l ≡ true → controls_hold p q s ≡ true → controls_hold p q (with_line_lem s l (not (s l))) ≡ false
unfolding controls_hold
fails p q s l lt c h = by (controls_hold p q (with_line_lem s l (not (s l)))) refl
  where
    wrong : (x y v : Bool) → (x || y) ≡ true → allows x y v ≡ true → allows x y (not v) ≡ false
    wrong true true true e a = refl
    wrong true true false e a = refl
    wrong true false true e a = refl
    wrong true false false e a = sym a
    wrong false true true e a = sym a
    wrong false true false e a = refl
    wrong false false v e a = sym e

    by : (b : Bool) → controls_hold p q (with_line_lem s l (not (s l))) ≡ b → controls_hold p q (with_line_lem s l (not (s l))) ≡ false
    by false e = e
    by true e =
        e ∙ sym (every_at width (λ i. allows (bit p i) (bit q i) (with_line_lem s l (not (s l)) i)) e l lt)
        ∙ ap (allows (bit p l) (bit q l)) (with_here s l (not (s l))) ∙ wrong (bit p l) (bit q l) (s l) c (every_at width (λ i. allows (bit p i) (bit q i) (s i)) h l lt)

pub outer : (n p q : ℕ) → Sets n p q → (i : ℕ) → n ≤ i → control p q i ≡ false
outer n p q h i ge = or_from _ _ (bit_above p n i h.small_p ge) (bit_above q n i h.small_q ge)

pub steady_upto : (n p q : ℕ) → Sets n p q → (s u : State) → controls_hold p q (upto n s u) ≡ controls_hold p q s
steady_upto n p q h s u = steady p q (upto n s u) s (λ i lt. by i (cases_lt i n))
  where
    by : (i : ℕ) → (i < n) ⊎ (n ≤ i) → (control p q i ≡ false) ⊎ (upto n s u i ≡ s i)
    by i (inl lt) = inr (upto_below n s u i lt)
    by i (inr ge) = inl (outer n p q h i ge)

-- the image of a set under a table
image_off : (t : List ℕ) (P : ℕ → Bool) (j : ℕ) → Outside t j → image t P j ≡ false
image_off [] P j out = refl
image_off (x ∷ t) P j out =
    or_from (x == j && P 0) (image t (λ i. P (suc i)) j) (ap (λ (b : Bool). b && P 0) (ne_eqb x j out.0)) (image_off t (λ i. P (suc i)) j out.1)

abbrev Different : List ℕ → Type 0
Different t = (i j : ℕ) → i < length t → j < length t → slice_index t i ≡ slice_index t j → i ≡ j

head_out : (x : ℕ) (t : List ℕ) → ((i : ℕ) → i < length t → slice_index t i ≢ x) → Outside t x
head_out x [] h = tt
head_out x (y ∷ t) h = (h 0 (omega arith), head_out x t (λ i lt. h (suc i) (omega arith)))

image_at : (t : List ℕ) → Different t → (P : ℕ → Bool) (i : ℕ) → i < length t → image t P (slice_index t i) ≡ P i
image_at [] d P i lt = absurd (let z : ⊥ = omega arith in z)
image_at (x ∷ t) d P zero lt =
    ap₂ (λ (b c : Bool). (b && P 0) || c) (eq-eqb x x refl)
    (image_off t (λ i. P (suc i)) x (head_out x t (λ i l e. let z : 0 ≡ suc i = d 0 (suc i) (omega arith) (omega arith) (sym e) in omega arith)))
    ∙ last (P 0)
  where
    last : (v : Bool) → (v || false) ≡ v
    last true = refl
    last false = refl
image_at (x ∷ t) d P (suc i) lt =
    ap (λ (b : Bool). (b && P 0) || image t (λ j. P (suc j)) (slice_index t i)) (ne_eqb x (slice_index t i) (λ e. let z : 0 ≡ suc i = d 0 (suc i) (omega arith) (omega arith) e in omega arith))
    ∙ image_at t (λ a b la lb e. let z : suc a ≡ suc b = d (suc a) (suc b) (omega arith) (omega arith) e in omega arith) (λ j. P (suc j)) i (omega arith)

module _ (l n : ℕ) (t : List ℕ) (table : Table l n t) where
  pub in_table : (i : ℕ) → i < l → i < length t
  in_table i lt = omega (arith, table.long)

  pub table_lt : (i : ℕ) → i < length t → slice_index t i < n
  table_lt i lt = All-get_or (λ x. x < n) t i 0 lt table.below

  pub beyond : (j : ℕ) → n ≤ j → Outside t j
  beyond j ge = All-weaker (λ x. x < n) (λ x. x ≢ j) (λ x lt e. omega arith) t table.below

  pub outside_ne : (j : ℕ) → Outside t j → (i : ℕ) → i < l → j ≢ slice_index t i
  outside_ne j out i lt e = All-get_or (λ x. x ≢ j) t i 0 (in_table i lt) out (sym e)

  pub same_line : (i j : ℕ) → i < l → j < l → (slice_index t i == slice_index t j) ≡ (i == j)
  same_line i j li lj = at (cases_eq i j)
    where
      at : (i ≡ j) ⊎ (i ≢ j) → (slice_index t i == slice_index t j) ≡ (i == j)
      at (inl e) = eq-eqb _ _ (ap (λ (x : ℕ). slice_index t x) e) ∙ sym (eq-eqb i j e)
      at (inr ne) = ne_eqb _ _ (λ e. ne (table.different i j li lj e)) ∙ sym (ne_eqb i j ne)

  pub set_at : (m i : ℕ) → i < length t → bit (renamed_set t m) (slice_index t i) ≡ bit m i
  set_at m i lt =
      bit_where width (image t (bit m)) (slice_index t i) (omega (arith, table_lt i lt, table.few))
      ∙ image_at t (λ i j li lj e. table.different i j (omega (arith, table.long)) (omega (arith, table.long)) e) (bit m) i lt

  pub set_off : (m j : ℕ) → j < width → Outside t j → bit (renamed_set t m) j ≡ false
  set_off m j lt out = bit_where width (image t (bit m)) j lt ∙ image_off t (bit m) j out

  set_small : (m : ℕ) → renamed_set t m < 2 ^ n
  set_small m = where_lt_of width n (image t (bit m)) table.few (λ i ge. image_off t (bit m) i (beyond i ge))

  module _ (p q : ℕ) (sets : Sets l p q) where
    pub control_at : (i : ℕ) → i < l → control (renamed_set t p) (renamed_set t q) (slice_index t i) ≡ control p q i
    control_at i lt = ap₂ ◌||◌ (set_at p i (in_table i lt)) (set_at q i (in_table i lt))

    pub renamed_sets : Sets n (renamed_set t p) (renamed_set t q)
    renamed_sets = record { few = table.few; small_p = set_small p; small_q = set_small q; disjoint = λ j lt. at j lt (in_or_out t j) }
      where
        at : (j : ℕ) → j < width → ((i : ℕ) × (i < length t) × (slice_index t i ≡ j)) ⊎ Outside t j → (bit (renamed_set t p) j && bit (renamed_set t q) j) ≡ false
        at j lt (inl (i, il, e)) =
            subst (λ (x : ℕ). (bit (renamed_set t p) x && bit (renamed_set t q) x) ≡ false) e
            (ap₂ ◌&&◌ (set_at p i il) (set_at q i il) ∙ sets.disjoint i (omega (arith, sets.few, table.long)))
        at j lt (inr out) = ap (λ (b : Bool). b && bit (renamed_set t q) j) (set_off p j lt out)

    pub renamed_hold : (s : State) → controls_hold (renamed_set t p) (renamed_set t q) s ≡ controls_hold p q (through t s)
    unfolding controls_hold
    renamed_hold s = iff_same _ _ (λ h. every_of width _ (λ i lt. old i lt (cases_lt i l) h)) (λ h. every_of width _ (λ j lt. onto j lt (in_or_out t j) h))
      where
        Old : ℕ → Bool
        Old i = allows (bit p i) (bit q i) (through t s i)

        New : ℕ → Bool
        New j = allows (bit (renamed_set t p) j) (bit (renamed_set t q) j) (s j)

        both : (i : ℕ) → i < length t → New (slice_index t i) ≡ Old i
        both i lt = ap₂ (λ (x y : Bool). allows x y (s (slice_index t i))) (set_at p i lt) (set_at q i lt) ∙ ap (allows (bit p i) (bit q i)) (sym (through_at t s i lt))

        old : (i : ℕ) → i < width → (i < l) ⊎ (l ≤ i) → every_below width New ≡ true → Old i ≡ true
        old i lt (inl il) h = sym (both i (in_table i il)) ∙ every_at width New h (slice_index t i) (omega (arith, table_lt i (in_table i il), table.few))
        old i lt (inr ge) h = ap₂ (λ (x y : Bool). allows x y (through t s i)) (bit_above p l i sets.small_p ge) (bit_above q l i sets.small_q ge)

        onto : (j : ℕ) → j < width → ((i : ℕ) × (i < length t) × (slice_index t i ≡ j)) ⊎ Outside t j → every_below width Old ≡ true → New j ≡ true
        onto j lt (inl (i, il, e)) h = subst (λ (x : ℕ). New x ≡ true) e (both i il ∙ every_at width Old h i (omega (arith, sets.few, table.long)))
        onto j lt (inr out) h = ap₂ (λ (x y : Bool). allows x y (s j)) (set_off p j lt out) (set_off q j lt out)

-- one line more, before renaming or after
pub member_at : (l m i : ℕ) → i < width → bit (with_member l m) i ≡ (i == l || bit m i)
member_at l m i lt = bit_where width (λ i. (i == l) || bit m i) i lt

-- a line of the two or of the one
pub only_member : (x i : ℕ) → bit (with_member x 0) i ≡ true → i ≡ x
only_member x i h = by (cases_lt i width)
  where
    by : (i < width) ⊎ (width ≤ i) → i ≡ x
    by (inl lt) = none (or_cases (i == x) (bit 0 i) (sym (member_at x 0 i lt) ∙ h))
      where
        none : ((i == x) ≡ true) ⊎ (bit 0 i ≡ true) → i ≡ x
        none (inl e) = eqb-true i x e
        none (inr e) = absurd (both_ways (bit 0 i) (bit_none i) e)
    by (inr ge) = absurd (both_ways (bit (with_member x 0) i) (bit_above (with_member x 0) width i (where_lt width (λ j. (j == x) || bit 0 j)) ge) h)

pub two_members : (x y i : ℕ) → bit (with_member x (with_member y 0)) i ≡ true → (i ≡ x) ⊎ (i ≡ y)
two_members x y i h = by (cases_lt i width)
  where
    by : (i < width) ⊎ (width ≤ i) → (i ≡ x) ⊎ (i ≡ y)
    by (inl lt) = either (or_cases (i == x) (bit (with_member y 0) i) (sym (member_at x (with_member y 0) i lt) ∙ h))
      where
        either : ((i == x) ≡ true) ⊎ (bit (with_member y 0) i ≡ true) → (i ≡ x) ⊎ (i ≡ y)
        either (inl e) = inl (eqb-true i x e)
        either (inr e) = inr (only_member y i e)
    by (inr ge) = absurd (both_ways (bit (with_member x (with_member y 0)) i) (bit_above (with_member x (with_member y 0)) width i (where_lt width (λ j. (j == x) || bit (with_member y 0) j)) ge) h)

pub is_member : (x m : ℕ) → x < width → bit (with_member x m) x ≡ true
is_member x m lt = member_at x m x lt ∙ ap (λ (b : Bool). b || bit m x) (eq-eqb x x refl)

pub still_member : (x m i : ℕ) → i < width → bit m i ≡ true → bit (with_member x m) i ≡ true
still_member x m i lt e = member_at x m i lt ∙ or_right (i == x) (bit m i) e

pub members_swap : (x y m : ℕ) → with_member x (with_member y m) ≡ with_member y (with_member x m)
members_swap x y m =
    set_ext width _ _ (where_lt width (λ i. (i == x) || bit (with_member y m) i)) (where_lt width (λ i. (i == y) || bit (with_member x m) i))
    (λ i lt.
    member_at x (with_member y m) i lt ∙ ap (λ (b : Bool). (i == x) || b) (member_at y m i lt) ∙ either (i == x) (i == y) (bit m i)
    ∙ sym (member_at y (with_member x m) i lt ∙ ap (λ (b : Bool). (i == y) || b) (member_at x m i lt)))
  where
    either : (a b c : Bool) → (a || (b || c)) ≡ (b || (a || c))
    either true true c = refl
    either true false c = refl
    either false true c = refl
    either false false c = refl

module _ (l n : ℕ) (t : List ℕ) (table : Table l n t) where
  pub empty_renamed : renamed_set t 0 ≡ 0
  empty_renamed = set_ext width _ 0 (where_lt width (image t (bit 0))) (omega arith) (λ j lt. at j lt (in_or_out t j))
    where
      at : (j : ℕ) → j < width → ((i : ℕ) × (i < length t) × (slice_index t i ≡ j)) ⊎ Outside t j → bit (renamed_set t 0) j ≡ bit 0 j
      at j lt (inl (i, il, e)) = subst (λ (x : ℕ). bit (renamed_set t 0) x ≡ bit 0 x) e (set_at l n t table 0 i il ∙ bit_none i ∙ sym (bit_none (slice_index t i)))
      at j lt (inr out) = set_off l n t table 0 j lt out ∙ sym (bit_none j)

  pub member_renamed : (x m : ℕ) → x < l → l ≤ width → with_member (slice_index t x) (renamed_set t m) ≡ renamed_set t (with_member x m)
  member_renamed x m xl lw =
      set_ext width _ _ (where_lt width (λ i. (i == slice_index t x) || bit (renamed_set t m) i)) (where_lt width (image t (bit (with_member x m))))
      (λ j lt. member_at (slice_index t x) (renamed_set t m) j lt ∙ at j lt (in_or_out t j))
    where
      at : (j : ℕ) → j < width → ((i : ℕ) × (i < length t) × (slice_index t i ≡ j)) ⊎ Outside t j
          → (j == slice_index t x || bit (renamed_set t m) j) ≡ bit (renamed_set t (with_member x m)) j
      at j lt (inl (i, il, e)) =
          let li : i < l = omega (arith, table.long) in
          subst (λ (y : ℕ). (y == slice_index t x || bit (renamed_set t m) y) ≡ bit (renamed_set t (with_member x m)) y) e
          (ap₂ ◌||◌ (same_line l n t table i x li xl) (set_at l n t table m i il) ∙ sym (set_at l n t table (with_member x m) i il ∙ member_at x m i (omega arith)))
      at j lt (inr out) =
          ap₂ ◌||◌ (ne_eqb j (slice_index t x) (outside_ne l n t table j out x xl)) (set_off l n t table m j lt out) ∙ sym (set_off l n t table (with_member x m) j lt out)

pub set_back : (n : ℕ) (t u : List ℕ) → Table n n t → Table n n u → ((i : ℕ) → i < n → slice_index u (slice_index t i) ≡ i)
    → (m : ℕ) → m < 2 ^ n → renamed_set u (renamed_set t m) ≡ m
set_back n t u table back inv m lt =
    set_ext width (renamed_set u (renamed_set t m)) m (where_lt width (image u (bit (renamed_set t m)))) (omega (arith, pow_mono table.few)) (λ i il. at i il (cases_lt i n))
  where
    at : (i : ℕ) → i < width → (i < n) ⊎ (n ≤ i) → bit (renamed_set u (renamed_set t m)) i ≡ bit m i
    at i il (inl h) =
        let tl = in_table n n t table i h in
        subst (λ (x : ℕ). bit (renamed_set u (renamed_set t m)) x ≡ bit m i) (inv i h)
        (set_at n n u back (renamed_set t m) (slice_index t i) (in_table n n u back (slice_index t i) (table_lt n n t table i tl)) ∙ set_at n n t table m i tl)
    at i il (inr h) = set_off n n u back (renamed_set t m) i il (beyond n n u back i h) ∙ sym (bit_above m n i lt h)

-- the table that leaves every line where it is
counted_at : (few i j : ℕ) → j < few → slice_index (counted i few) j ≡ i + j
counted_at zero i j lt = absurd (let z : ⊥ = omega arith in z)
counted_at (suc few) i zero lt = omega arith
counted_at (suc few) i (suc j) lt = counted_at few (suc i) j (omega arith) ∙ omega arith

length_counted : (i few : ℕ) → length (counted i few) ≡ few
length_counted i zero = refl
length_counted i (suc few) = ap suc (length_counted (suc i) few)

pub unmoved_at : (n i : ℕ) → i < n → slice_index (unmoved n) i ≡ i
unmoved_at n i lt = counted_at n 0 i lt ∙ omega arith

pub unmoved_table : (n : ℕ) → n ≤ width → Table n n (unmoved n)
unmoved_table n few = record {
  few = few;
  long = length_counted 0 n;
  below = All-from_get_or (λ x. x < n) (unmoved n) 0 (λ i lt. let il : i < n = omega (arith, length_counted 0 n) in omega (arith, unmoved_at n i il));
  different = λ i j li lj e. omega (arith, unmoved_at n i li, unmoved_at n j lj);
}

pub set_unmoved : (n m : ℕ) → n ≤ width → m < 2 ^ n → renamed_set (unmoved n) m ≡ m
set_unmoved n m few lt =
    set_ext width (renamed_set (unmoved n) m) m (where_lt width (image (unmoved n) (bit m))) (omega (arith, pow_mono few)) (λ i il. at i il (cases_lt i n))
  where
    table : Table n n (unmoved n)
    table = unmoved_table n few

    at : (i : ℕ) → i < width → (i < n) ⊎ (n ≤ i) → bit (renamed_set (unmoved n) m) i ≡ bit m i
    at i il (inl h) =
        subst (λ (x : ℕ). bit (renamed_set (unmoved n) m) x ≡ bit m i) (unmoved_at n i h)
        (set_at n n (unmoved n) table m i (in_table n n (unmoved n) table i h))
    at i il (inr h) = set_off n n (unmoved n) table m i il (beyond n n (unmoved n) table i h) ∙ sym (bit_above m n i lt h)

-- flips
pub exchange_at : (f m m' i : ℕ) → i < width → bit (exchanged f m m') i ≡ cond (bit f i) (bit m' i) (bit m i)
exchange_at f m m' i lt = bit_where width (λ i. cond (bit f i) (bit m' i) (bit m i)) i lt

exchange_small : (n f m m' : ℕ) → n ≤ width → m < 2 ^ n → m' < 2 ^ n → exchanged f m m' < 2 ^ n
exchange_small n f m m' few lm lm' = where_lt_of width n _ few (λ i ge. at (bit f i) (bit_above m' n i lm' ge) (bit_above m n i lm ge))
  where
    at : {x y : Bool} (b : Bool) → x ≡ false → y ≡ false → cond b x y ≡ false
    at true e d = e
    at false e d = d

pub flipped_sets : (n f p q : ℕ) → Sets n p q → Sets n (exchanged f p q) (exchanged f q p)
flipped_sets n f p q h = record {
  few = h.few;
  small_p = exchange_small n f p q h.few h.small_p h.small_q;
  small_q = exchange_small n f q p h.few h.small_q h.small_p;
  disjoint = λ i lt. ap₂ ◌&&◌ (exchange_at f p q i lt) (exchange_at f q p i lt) ∙ one (bit f i) _ _ (h.disjoint i lt);
}
  where
    one : (b x y : Bool) → (x && y) ≡ false → (cond b y x && cond b x y) ≡ false
    one true true true e = e
    one true true false e = e
    one true false true e = e
    one true false false e = e
    one false x y e = e

pub flipped_control : (f p q i : ℕ) → i < width → control (exchanged f p q) (exchanged f q p) i ≡ control p q i
flipped_control f p q i lt = ap₂ ◌||◌ (exchange_at f p q i lt) (exchange_at f q p i lt) ∙ at (bit f i) (bit p i) (bit q i)
  where
    at : (b x y : Bool) → (cond b y x || cond b x y) ≡ (x || y)
    at true true true = refl
    at true true false = refl
    at true false true = refl
    at true false false = refl
    at false x y = refl

pub flipped_hold : (f p q : ℕ) (s : State) → controls_hold (exchanged f p q) (exchanged f q p) s ≡ controls_hold p q (inverted f s)
unfolding controls_hold
flipped_hold f p q s = every_same width _ _ (λ i lt.
    ap₂ (λ (x y : Bool). allows x y (s i)) (exchange_at f p q i lt) (exchange_at f q p i lt) ∙ at (bit f i) (bit p i) (bit q i) (s i))
  where
    at : (b x y v : Bool) → allows (cond b y x) (cond b x y) v ≡ allows x y (cond b (not v) v)
    at true true true true = refl
    at true true true false = refl
    at true true false true = refl
    at true true false false = refl
    at true false true true = refl
    at true false true false = refl
    at true false false v = refl
    at false x y v = refl

-- one more control
every_and : (n : ℕ) (P Q : ℕ → Bool) → every_below n (λ i. P i && Q i) ≡ (every_below n P && every_below n Q)
every_and n P Q = iff_same _ _
    (λ h. and_from _ _ (every_of n P (λ i lt. (and_parts (P i) (Q i) (every_at n (λ i. P i && Q i) h i lt)).0)) (every_of n Q (λ i lt. (and_parts (P i) (Q i) (every_at n (λ i. P i && Q i) h i lt)).1)))
    (λ h. let both = and_parts (every_below n P) (every_below n Q) h in every_of n (λ i. P i && Q i) (λ i lt. and_from (P i) (Q i) (every_at n P both.0 i lt) (every_at n Q both.1 i lt)))

every_one : (n l : ℕ) (R : ℕ → Bool) → l < n → every_below n (λ i. cond (i == l) (R i) true) ≡ R l
every_one n l R lt = iff_same _ _
    (λ h. sym (ap (λ (b : Bool). cond b (R l) true) (eq-eqb l l refl)) ∙ every_at n (λ i. cond (i == l) (R i) true) h l lt)
    (λ h. every_of n (λ i. cond (i == l) (R i) true) (λ i _. at i h (cases_eq i l)))
  where
    at : (i : ℕ) → R l ≡ true → (i ≡ l) ⊎ (i ≢ l) → cond (i == l) (R i) true ≡ true
    at i h (inl e) = ap (λ (b : Bool). cond b (R i) true) (eq-eqb i l e) ∙ ap R e ∙ h
    at i h (inr ne) = ap (λ (b : Bool). cond b (R i) true) (ne_eqb i l ne)

module _ (n l : ℕ) (v : Sign) (p q : ℕ) (h : Sets n p q) (below : l < n) (fresh : control p q l ≡ false) where
  more_at : (i : ℕ) → i < width
      → (bit (more_positive l v p) i ≡ ((i == l && wanted v) || bit p i)) × (bit (more_negative l v q) i ≡ ((i == l && not (wanted v)) || bit q i))
  more_at i lt =
      elim v as (λ x. (bit (more_positive l x p) i ≡ ((i == l && wanted x) || bit p i)) × (bit (more_negative l x q) i ≡ ((i == l && not (wanted x)) || bit q i))) [
        | Positive ↦ (bit_where width (λ i. (i == l) || bit p i) i lt ∙ and_one (i == l) (bit p i), and_none (i == l) (bit q i))
        | Negative ↦ (and_none (i == l) (bit p i), bit_where width (λ i. (i == l) || bit q i) i lt ∙ and_one (i == l) (bit q i))
      ]
    where
      and_one : (x y : Bool) → (x || y) ≡ ((x && true) || y)
      and_one true y = refl
      and_one false y = refl

      and_none : (x y : Bool) → y ≡ ((x && false) || y)
      and_none true y = refl
      and_none false y = refl

  pub more_control : (i : ℕ) → i < width → (i ≢ l) → control (more_positive l v p) (more_negative l v q) i ≡ control p q i
  more_control i lt ne =
      let b : eqb i l ≡ false = ne_eqb i l ne in
      ap₂ ◌||◌ ((more_at i lt).0 ∙ ap (λ (x : Bool). (x && wanted v) || bit p i) b) ((more_at i lt).1 ∙ ap (λ (x : Bool). (x && not (wanted v)) || bit q i) b)

  lone : (bit p l ≡ false) × (bit q l ≡ false)
  lone = or_parts _ _ fresh

  pub more_hold : (s : State) → controls_hold (more_positive l v p) (more_negative l v q) s ≡ (beq (s l) (wanted v) && controls_hold p q s)
  unfolding controls_hold
  more_hold s =
      every_same width _ (λ i. cond (i == l) (beq (s i) (wanted v)) true && allows (bit p i) (bit q i) (s i))
      (λ i lt. ap₂ (λ (x y : Bool). allows x y (s i)) (more_at i lt).0 (more_at i lt).1 ∙ at i (cases_eq i l))
      ∙ every_and width (λ i. cond (i == l) (beq (s i) (wanted v)) true) (λ i. allows (bit p i) (bit q i) (s i))
      ∙ ap (λ (b : Bool). b && every_below width (λ i. allows (bit p i) (bit q i) (s i))) (every_one width l (λ i. beq (s i) (wanted v)) (omega (arith, h.few)))
    where
      here : (w x : Bool) → allows (w || false) (not w || false) x ≡ (beq x w && true)
      here true true = refl
      here true false = refl
      here false true = refl
      here false false = refl

      at : (i : ℕ) → (i ≡ l) ⊎ (i ≢ l)
          → allows ((i == l && wanted v) || bit p i) ((i == l && not (wanted v)) || bit q i) (s i) ≡ (cond (i == l) (beq (s i) (wanted v)) true && allows (bit p i) (bit q i) (s i))
      at i (inl e) =
          let x : bit p i ≡ false = ap (bit p) e ∙ lone.0 in
          let y : bit q i ≡ false = ap (bit q) e ∙ lone.1 in
          let b : eqb i l ≡ true = eq-eqb i l e in
          rw (x, y, b) (here (wanted v) (s i))
      at i (inr ne) = let b : eqb i l ≡ false = ne_eqb i l ne in rw b

  pub more_sets : Sets n (more_positive l v p) (more_negative l v q)
  more_sets = record {
    few = h.few;
    small_p = elim v as (λ x. more_positive l x p < 2 ^ n) [ Positive ↦ small p h.small_p | Negative ↦ h.small_p ];
    small_q = elim v as (λ x. more_negative l x q < 2 ^ n) [ Positive ↦ h.small_q | Negative ↦ small q h.small_q ];
    disjoint = λ i lt. ap₂ ◌&&◌ (more_at i lt).0 (more_at i lt).1 ∙ at i lt (cases_eq i l);
  }
    where
      small : (m : ℕ) → m < 2 ^ n → with_member l m < 2 ^ n
      small m lm = where_lt_of width n _ h.few (λ i ge. or_from _ _ (ne_eqb i l (λ e. omega arith)) (bit_above m n i lm ge))

      one : (w : Bool) → ((w || false) && (not w || false)) ≡ false
      one true = refl
      one false = refl

      at : (i : ℕ) → i < width → (i ≡ l) ⊎ (i ≢ l) → (((i == l && wanted v) || bit p i) && ((i == l && not (wanted v)) || bit q i)) ≡ false
      at i lt (inl e) =
          let x : bit p i ≡ false = ap (bit p) e ∙ lone.0 in
          let y : bit q i ≡ false = ap (bit q) e ∙ lone.1 in
          let b : eqb i l ≡ true = eq-eqb i l e in
          rw (x, y, b) (one (wanted v))
      at i lt (inr ne) = let b : eqb i l ≡ false = ne_eqb i l ne in rw b (h.disjoint i lt)
