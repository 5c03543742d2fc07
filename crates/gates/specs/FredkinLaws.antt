-- Fredkin gates keep the laws of a kind.
use Rattle.std.specs.Prelude.{◌≡◌, ℕ, ◌<◌, ◌≤◌, min, max, Bool, true, false, cond, not, ◌&&◌, ◌||◌, ◌⊎◌, List, Some, None, Option, ◌==◌, ◌≢◌, nat_lt, slice_index, slice_index_or, refl}
use Rattle.std.proofs.Common.{sym, ap, ap₂, ◌∙◌, subst, inl, inr, arith}
use Rattle.std.proofs.Math.Path.{fun_ext}
use Rattle.std.specs.Bool.{beq}
use Rattle.std.proofs.lemmas.Bool.{both_ways, cases_lt, cases_eq, cases_Bool, eq-eqb, ne_eqb, eqb-true, eqb-false, ltb-true, lt-ltb, and_parts, and_from, not-true, not_from_false, or_cases, or_parts}
use Rattle.gates.specs.declared.gate.Gate.{Gate}
use Rattle.gates.specs.declared.gate.Sign.{Sign}
use Rattle.gates.specs.Lines.{State, Table, Outside, width, bit, with_line_lem, upto, inverted_if, inverted, through, unmoved}
use Rattle.gates.specs.Kinds.{KindLaws, Formed, Idle, MovedLines, FlippedLines}
use Rattle.gates.specs.Controls.{gate, reads, control, controls_hold, with_member, renamed_set, wanted, with_flipped_controls_lem}
use Rattle.gates.specs.Fredkin.{other, fires, same_pair, disjoint_pairs, fredkin}
use Rattle.gates.specs.States.{with_here, with_there, upto_below, upto_above, through_at, inverted_if_twice, opposite, beq_same}
use Rattle.gates.specs.ControlSets.{Sets, sets_of, form_of, steady, steady_with, steady_upto, ready, fails, in_table, table_lt, outside_ne, control_at, renamed_sets, renamed_hold, two_members, is_member, still_member, empty_renamed, member_renamed, members_swap, set_back, unmoved_at, set_unmoved, flipped_sets, flipped_control, flipped_hold, more_control, more_hold, more_sets}
use Rattle.gates.specs.ToffoliLaws.{some_same}

record Shape (n : ℕ) (g : Gate) : Type 0 where
  sets : Sets n g.positive g.negative
  order : g.a < g.b
  below : g.b < n
  off_a : reads g g.a ≡ false
  off_b : reads g g.b ≡ false

shape : (n : ℕ) (g : Gate) → Formed fredkin n g → Shape n g
shape n g h =
    let h1 = and_parts _ _ h in
    let h2 = and_parts _ _ h1.1 in
    let h3 = and_parts _ _ h2.1 in
    let h4 = and_parts _ _ h3.1 in
    record { sets = sets_of n g.positive g.negative h1.0; order = ltb-true g.a g.b h2.0; below = ltb-true g.b n h3.0; off_a = not-true _ h4.0; off_b = not-true _ h4.1 }

formed : (n : ℕ) (g : Gate) → Shape n g → Formed fredkin n g
formed n g h =
    and_from _ _ (form_of n g.positive g.negative h.sets)
    (and_from _ _ (lt-ltb g.a g.b h.order) (and_from _ _ (lt-ltb g.b n h.below) (and_from _ _ (not_from_false _ h.off_a) (not_from_false _ h.off_b))))

-- lines below the width leave it to the controls
fires_by : (n : ℕ) (g : Gate) (s : State) → Shape n g → fires g s ≡ controls_hold g.positive g.negative s
fires_by n g s h =
    let la : g.a < width = omega (arith, h.order, h.below, h.sets.few) in
    let lb : g.b < width = omega (arith, h.below, h.sets.few) in
    ap (λ (b : Bool). b && controls_hold g.positive g.negative s) (and_from _ _ (lt-ltb g.a width la) (lt-ltb g.b width lb))

-- the exchange of two lines
other_a : (a b : ℕ) → other a b a ≡ b
other_a a b = ap (λ (x : Bool). cond x b (cond (a == b) a a)) (eq-eqb a a refl)

other_b : (a b : ℕ) → (b ≢ a) → other a b b ≡ a
other_b a b ne = ap₂ (λ (x y : Bool). cond x b (cond y a b)) (ne_eqb b a ne) (eq-eqb b b refl)

other_else : (a b i : ℕ) → (i ≢ a) → (i ≢ b) → other a b i ≡ i
other_else a b i na nb = ap₂ (λ (x y : Bool). cond x b (cond y a i)) (ne_eqb i a na) (ne_eqb i b nb)

-- a line is a, or b, or neither
which : (P : ℕ → Type 0) (a b i : ℕ) → P a → P b → ((i ≢ a) → (i ≢ b) → P i) → P i
which P a b i pa pb else = at (cases_eq i a) (cases_eq i b)
  where
    at : (i ≡ a) ⊎ (i ≢ a) → (i ≡ b) ⊎ (i ≢ b) → P i
    at (inl e) r = subst P (sym e) pa
    at (inr na) (inl e) = subst P (sym e) pb
    at (inr na) (inr nb) = else na nb

other_twice : (a b i : ℕ) → (b ≢ a) → other a b (other a b i) ≡ i
other_twice a b i ne = which (λ x. other a b (other a b x) ≡ x) a b i
    (ap (other a b) (other_a a b) ∙ other_b a b ne) (ap (other a b) (other_b a b ne) ∙ other_a a b)
    (λ na nb. ap (other a b) (other_else a b i na nb) ∙ other_else a b i na nb)

other_sym : (a b i : ℕ) → (b ≢ a) → other b a i ≡ other a b i
other_sym a b i ne = which (λ x. other b a x ≡ other a b x) a b i
    (other_b b a (λ e. ne (sym e)) ∙ sym (other_a a b)) (other_a b a ∙ sym (other_b a b ne))
    (λ na nb. other_else b a i nb na ∙ sym (other_else a b i na nb))

module _ (a b c d : ℕ) (ne : b ≡ a → ⊥) (ne' : d ≡ c → ⊥) (ac : a ≡ c → ⊥) (ad : a ≡ d → ⊥) (bc : b ≡ c → ⊥) (bd : b ≡ d → ⊥) where
  other_other : (i : ℕ) → other a b (other c d i) ≡ other c d (other a b i)
  other_other i = which (λ x. other a b (other c d x) ≡ other c d (other a b x)) a b i
      (ap (other a b) (other_else c d a ac ad) ∙ other_a a b ∙ sym (ap (other c d) (other_a a b) ∙ other_else c d b bc bd))
      (ap (other a b) (other_else c d b bc bd) ∙ other_b a b ne ∙ sym (ap (other c d) (other_b a b ne) ∙ other_else c d a ac ad))
      (λ na nb. (which (λ x. (x ≢ a) → (x ≢ b) → other a b (other c d x) ≡ other c d (other a b x)) c d i
      (λ ca cb. ap (other a b) (other_a c d) ∙ other_else a b d (λ e. ad (sym e)) (λ e. bd (sym e)) ∙ sym (ap (other c d) (other_else a b c ca cb) ∙ other_a c d))
      (λ da db. ap (other a b) (other_b c d ne') ∙ other_else a b c (λ e. ac (sym e)) (λ e. bc (sym e)) ∙ sym (ap (other c d) (other_else a b d da db) ∙ other_b c d ne'))
      (λ nc nd xa xb. ap (other a b) (other_else c d i nc nd) ∙ other_else a b i xa xb ∙ sym (ap (other c d) (other_else a b i xa xb) ∙ other_else c d i nc nd))) na nb)

-- a gate leaves the lines that it does not exchange
aside : (g : Gate) (s : State) (i : ℕ) → (i ≢ g.a) → (i ≢ g.b) → fredkin.sends g s i ≡ s i
aside g s i na nb =
    ap (λ (x : ℕ). cond (fires g s) (s x) (s i)) (other_else g.a g.b i na nb)
    ∙ (elim (fires g s) as (λ b. cond b (s i) (s i) ≡ s i) [ true ↦ refl | false ↦ refl ])

-- a gate whose exchanged lines are no controls of h does not make h fire, nor keep it from firing
unseen : (g h : Gate) (s : State) → reads h g.a ≡ false → reads h g.b ≡ false → fires h (fredkin.sends g s) ≡ fires h s
unseen g h s ea eb = ap (λ (b : Bool). (nat_lt h.a width && nat_lt h.b width) && b) (steady h.positive h.negative (fredkin.sends g s) s (λ i lt.
    which (λ x. (reads h x ≡ false) ⊎ (fredkin.sends g s x ≡ s x)) g.a g.b i (inl ea) (inl eb) (λ na nb. inr (aside g s i na nb))))

apart_lines : {n : ℕ} {g : Gate} → Shape n g → g.b ≢ g.a
apart_lines h e = omega (arith, h.order)

changes : (n : ℕ) (g : Gate) → Formed fredkin n g → (s : State) (i : ℕ) → bit (fredkin.targets g) i ≡ false → fredkin.sends g s i ≡ s i
changes n g f s i h =
    let sh = shape n g f in
    let la : g.a < width = omega (arith, sh.order, sh.below, sh.sets.few) in
    let lb : g.b < width = omega (arith, sh.below, sh.sets.few) in
    let T = with_member g.a (with_member g.b 0) in
    aside g s i
    (λ e. both_ways (bit T i) h (ap (bit T) e ∙ is_member g.a (with_member g.b 0) la))
    (λ e. both_ways (bit T i) h (ap (bit T) e ∙ still_member g.a (with_member g.b 0) g.b lb (is_member g.b 0 lb)))

targets_apart : (n : ℕ) (g : Gate) → Formed fredkin n g → (i : ℕ) → bit (fredkin.targets g) i ≡ true → (i < n) × (reads g i ≡ false)
targets_apart n g f i h = by (two_members g.a g.b i h)
  where
    sh : Shape n g
    sh = shape n g f

    by : (i ≡ g.a) ⊎ (i ≡ g.b) → (i < n) × (reads g i ≡ false)
    by (inl e) = (omega (arith, e, sh.order, sh.below), ap (reads g) e ∙ sh.off_a)
    by (inr e) = (omega (arith, e, sh.below), ap (reads g) e ∙ sh.off_b)

self : (n : ℕ) (g : Gate) → Formed fredkin n g → (s : State) → fredkin.sends g (fredkin.sends g s) ≡ s
self n g f s = fun_ext λ i.
    ap (λ (b : Bool). cond b (fredkin.sends g s (other g.a g.b i)) (fredkin.sends g s i)) (unseen g g s h.off_a h.off_b) ∙ at i (fires g s)
  where
    h : Shape n g
    h = shape n g f

    at : (i : ℕ) (b : Bool)
        → cond b (cond b (s (other g.a g.b (other g.a g.b i))) (s (other g.a g.b i))) (cond b (s (other g.a g.b i)) (s i)) ≡ s i
    at i true = ap s (other_twice g.a g.b i (apart_lines h))
    at i false = refl

-- pairs that are equal or disjoint
pairs : (n : ℕ) (g h : Gate) → Shape n g → Shape n h → (same_pair g h || disjoint_pairs g h) ≡ true → (i : ℕ) → other g.a g.b (other h.a h.b i) ≡ other h.a h.b (other g.a g.b i)
pairs n g h sg sh e i = at (or_cases _ _ e)
  where
    at : (same_pair g h ≡ true) ⊎ (disjoint_pairs g h ≡ true) → other g.a g.b (other h.a h.b i) ≡ other h.a h.b (other g.a g.b i)
    at (inl q) =
        let both = and_parts _ _ q in
        let ea : g.a ≡ h.a = eqb-true g.a h.a both.0 in
        let eb : g.b ≡ h.b = eqb-true g.b h.b both.1 in
        ap₂ (λ (x y : ℕ). other x y (other h.a h.b i)) ea eb ∙ sym (ap (other h.a h.b) (ap₂ (λ (x y : ℕ). other x y i) ea eb))
    at (inr q) =
        let both = and_parts _ _ q in
        let one = and_parts _ _ both.0 in
        let two = and_parts _ _ both.1 in
        other_other g.a g.b h.a h.b (apart_lines sg) (apart_lines sh)
        (eqb-false _ _ (not-true _ one.0)) (eqb-false _ _ (not-true _ one.1)) (eqb-false _ _ (not-true _ two.0)) (eqb-false _ _ (not-true _ two.1)) i

swap : (n : ℕ) (g h : Gate) → Formed fredkin n g → Formed fredkin n h → fredkin.free g h ≡ true → (s : State) → fredkin.sends h (fredkin.sends g s) ≡ fredkin.sends g (fredkin.sends h s)
swap n g h fg fh f s = fun_ext λ i.
    let parts = and_parts _ _ f in
    let clear = and_parts _ _ parts.0 in
    let gh = and_parts _ _ clear.0 in
    let hg = and_parts _ _ clear.1 in
    ap (λ (b : Bool). cond b (fredkin.sends g s (other h.a h.b i)) (fredkin.sends g s i)) (unseen g h s (not-true _ gh.0) (not-true _ gh.1))
    ∙ at i (fires h s) (fires g s) (pairs n g h (shape n g fg) (shape n h fh) parts.1 i)
    ∙ sym (ap (λ (b : Bool). cond b (fredkin.sends h s (other g.a g.b i)) (fredkin.sends h s i)) (unseen h g s (not-true _ hg.0) (not-true _ hg.1)))
  where
    at : (i : ℕ) (x y : Bool) → other g.a g.b (other h.a h.b i) ≡ other h.a h.b (other g.a g.b i)
        → cond x (cond y (s (other g.a g.b (other h.a h.b i))) (s (other h.a h.b i))) (cond y (s (other g.a g.b i)) (s i))
        ≡ cond y (cond x (s (other h.a h.b (other g.a g.b i))) (s (other g.a g.b i))) (cond x (s (other h.a h.b i)) (s i))
    at i true true e = ap s e
    at i true false e = refl
    at i false true e = refl
    at i false false e = refl

-- two lines in order
ordered : (x y i : ℕ) → (y ≢ x) → other (min x y) (max x y) i ≡ other x y i
ordered x y i ne = at (cases_lt x y)
  where
    at : (x < y) ⊎ (y ≤ x) → other (min x y) (max x y) i ≡ other x y i
    at (inl lt) = ap₂ (λ (u v : ℕ). other u v i) (let e : min x y ≡ x = omega arith in e) (let e : max x y ≡ y = omega arith in e)
    at (inr ge) = ap₂ (λ (u v : ℕ). other u v i) (let e : min x y ≡ y = omega arith in e) (let e : max x y ≡ x = omega arith in e) ∙ other_sym x y i ne

-- what holds of both holds of the lower and of the higher
either_of : (P : ℕ → Type 0) (x y : ℕ) → P x → P y → P (min x y) × P (max x y)
either_of P x y px py = at (cases_lt x y)
  where
    at : (x < y) ⊎ (y ≤ x) → P (min x y) × P (max x y)
    at (inl lt) = (subst P (let e : x ≡ min x y = omega arith in e) px, subst P (let e : y ≡ max x y = omega arith in e) py)
    at (inr ge) = (subst P (let e : y ≡ min x y = omega arith in e) py, subst P (let e : x ≡ max x y = omega arith in e) px)

module _ (l n : ℕ) (t : List ℕ) (g : Gate) (table : Table l n t) (f : Formed fredkin l g) where
  old : Shape l g
  old = shape l g f

  a_lt : g.a < l
  a_lt = let h = shape l g f in omega (arith, h.order, h.below)

  b_lt : g.b < l
  b_lt = (shape l g f).below

  ends_apart : slice_index_or t g.b 0 ≡ slice_index t g.a → ⊥
  ends_apart e = apart_lines (shape l g f) (table.different g.b g.a b_lt a_lt e)

  renamed_shape : Shape n (fredkin.renamed t g)
  renamed_shape =
      let h = shape l g f in
      let x = slice_index_or t g.a 0 in
      let y = slice_index_or t g.b 0 in
      let off = either_of (λ z. control (renamed_set t g.positive) (renamed_set t g.negative) z ≡ false) x y
      (control_at l n t table g.positive g.negative h.sets g.a a_lt ∙ h.off_a) (control_at l n t table g.positive g.negative h.sets g.b b_lt ∙ h.off_b) in
      record {
        sets = renamed_sets l n t table g.positive g.negative h.sets;
        order = let ne : (y ≢ x) = ends_apart in omega arith;
        below = (either_of (λ z. z < n) x y (table_lt l n t table g.a (in_table l n t table g.a a_lt)) (table_lt l n t table g.b (in_table l n t table g.b b_lt))).1;
        off_a = off.0;
        off_b = off.1;
      }

  renamed_formed : Formed fredkin n (fredkin.renamed t g)
  renamed_formed = formed n _ renamed_shape

  renamed_fires : (s : State) → fires (fredkin.renamed t g) s ≡ fires g (through t s)
  renamed_fires s =
      let h = shape l g f in
      fires_by n (fredkin.renamed t g) s renamed_shape ∙ renamed_hold l n t table g.positive g.negative h.sets s ∙ sym (fires_by l g (through t s) h)

  other_at : (i : ℕ) → i < l → other (slice_index t g.a) (slice_index t g.b) (slice_index t i) ≡ slice_index t (other g.a g.b i)
  other_at i lt = (which (λ z. z < l → other (slice_index t g.a) (slice_index t g.b) (slice_index t z) ≡ slice_index t (other g.a g.b z)) g.a g.b i
      (λ _. other_a (slice_index t g.a) (slice_index t g.b) ∙ ap (λ (z : ℕ). slice_index t z) (sym (other_a g.a g.b)))
      (λ _. other_b (slice_index t g.a) (slice_index t g.b) ends_apart ∙ ap (λ (z : ℕ). slice_index t z) (sym (other_b g.a g.b (apart_lines (shape l g f)))))
      (λ na nb lt. other_else _ _ (slice_index t i) (λ e. na (table.different i g.a lt a_lt e)) (λ e. nb (table.different i g.b lt b_lt e)) ∙ ap (λ (z : ℕ). slice_index t z) (sym (other_else g.a g.b i na nb)))) lt

  other_lt : (i : ℕ) → i < l → other g.a g.b i < l
  other_lt i lt = (which (λ z. z < l → other g.a g.b z < l) g.a g.b i
      (λ _. subst (λ (z : ℕ). z < l) (sym (other_a g.a g.b)) b_lt)
      (λ _. subst (λ (z : ℕ). z < l) (sym (other_b g.a g.b (apart_lines (shape l g f)))) a_lt)
      (λ na nb lt. subst (λ (z : ℕ). z < l) (sym (other_else g.a g.b i na nb)) lt)) lt

  renamed_on : (s : State) (i : ℕ) → i < l → fredkin.sends (fredkin.renamed t g) s (slice_index t i) ≡ fredkin.sends g (through t s) i
  renamed_on s i lt =
      ap₂ (λ (b : Bool) (z : ℕ). cond b (s z) (s (slice_index t i))) (renamed_fires s)
      (ordered (slice_index t g.a) (slice_index t g.b) (slice_index t i) ends_apart ∙ other_at i lt)
      ∙ ap₂ (λ (v w : Bool). cond (fires g (through t s)) v w)
      (sym (through_at t s (other g.a g.b i) (in_table l n t table _ (other_lt i lt)))) (sym (through_at t s i (in_table l n t table i lt)))

  renamed_off : (s : State) (j : ℕ) → Outside t j → fredkin.sends (fredkin.renamed t g) s j ≡ s j
  renamed_off s j out =
      let ne = either_of (λ z. j ≢ z) (slice_index t g.a) (slice_index t g.b) (outside_ne l n t table j out g.a a_lt) (outside_ne l n t table j out g.b b_lt) in
      aside (fredkin.renamed t g) s j ne.0 ne.1

  renamed_lines : MovedLines fredkin t g (fredkin.renamed t g)
  renamed_lines =
      let h = shape l g f in
      record {
        positive = refl;
        negative = refl;
        targets =
            sorted (slice_index t g.a) (slice_index t g.b)
            ∙ ap (λ (m : ℕ). with_member (slice_index t g.a) (with_member (slice_index t g.b) m)) (sym (empty_renamed l n t table))
            ∙ ap (with_member (slice_index t g.a)) (member_renamed l n t table g.b 0 b_lt h.sets.few)
            ∙ member_renamed l n t table g.a (with_member g.b 0) a_lt h.sets.few;
      }
    where
      sorted : (x y : ℕ) → with_member (min x y) (with_member (max x y) 0) ≡ with_member x (with_member y 0)
      sorted x y = at (cases_lt x y)
        where
          at : (x < y) ⊎ (y ≤ x) → with_member (min x y) (with_member (max x y) 0) ≡ with_member x (with_member y 0)
          at (inl lt) = ap₂ (λ (u v : ℕ). with_member u (with_member v 0)) (let e : min x y ≡ x = omega arith in e) (let e : max x y ≡ y = omega arith in e)
          at (inr ge) = ap₂ (λ (u v : ℕ). with_member u (with_member v 0)) (let e : min x y ≡ y = omega arith in e) (let e : max x y ≡ x = omega arith in e) ∙ members_swap y x 0

renamed_back : (n : ℕ) (t u : List ℕ) (g : Gate) → Table n n t → Table n n u → ((i : ℕ) → i < n → slice_index u (slice_index t i) ≡ i) → Formed fredkin n g → fredkin.renamed u (fredkin.renamed t g) ≡ g
renamed_back n t u g table back inv f =
    λ i. gate (ends.0 i) (ends.1 i) (set_back n t u table back inv g.positive h.sets.small_p i) (set_back n t u table back inv g.negative h.sets.small_q i)
  where
    h : Shape n g
    h = shape n g f

    x : ℕ
    x = slice_index t g.a

    y : ℕ
    y = slice_index t g.b

    ux : slice_index_or u x 0 ≡ g.a
    ux = inv g.a (omega (arith, h.order, h.below))

    uy : slice_index_or u y 0 ≡ g.b
    uy = inv g.b h.below

    ends : (min (slice_index u (min x y)) (slice_index u (max x y)) ≡ g.a) × (max (slice_index u (min x y)) (slice_index u (max x y)) ≡ g.b)
    ends = at (cases_lt x y)
      where
        at : (x < y) ⊎ (y ≤ x) → (min (slice_index u (min x y)) (slice_index u (max x y)) ≡ g.a) × (max (slice_index u (min x y)) (slice_index u (max x y)) ≡ g.b)
        at (inl lt) =
            let p : slice_index_or u (min x y) 0 ≡ g.a = ap (λ (z : ℕ). slice_index u z) (let e : min x y ≡ x = omega arith in e) ∙ ux in
            let q : slice_index_or u (max x y) 0 ≡ g.b = ap (λ (z : ℕ). slice_index u z) (let e : max x y ≡ y = omega arith in e) ∙ uy in
            (omega (arith, p, q, h.order), omega (arith, p, q, h.order))
        at (inr ge) =
            let p : slice_index_or u (min x y) 0 ≡ g.b = ap (λ (z : ℕ). slice_index u z) (let e : min x y ≡ y = omega arith in e) ∙ uy in
            let q : slice_index_or u (max x y) 0 ≡ g.a = ap (λ (z : ℕ). slice_index u z) (let e : max x y ≡ x = omega arith in e) ∙ ux in
            (omega (arith, p, q, h.order), omega (arith, p, q, h.order))

renamed_same : (n : ℕ) (g : Gate) → Formed fredkin n g → fredkin.renamed (unmoved n) g ≡ g
renamed_same n g f =
    λ i. gate (low i) (high i) (set_unmoved n g.positive h.sets.few h.sets.small_p i) (set_unmoved n g.negative h.sets.few h.sets.small_q i)
  where
    h : Shape n g
    h = shape n g f

    p : slice_index_or (unmoved n) g.a 0 ≡ g.a
    p = unmoved_at n g.a (omega (arith, h.order, h.below))

    q : slice_index_or (unmoved n) g.b 0 ≡ g.b
    q = unmoved_at n g.b h.below

    low : min (slice_index (unmoved n) g.a) (slice_index (unmoved n) g.b) ≡ g.a
    low = omega (arith, p, q, h.order)

    high : max (slice_index (unmoved n) g.a) (slice_index (unmoved n) g.b) ≡ g.b
    high = omega (arith, p, q, h.order)

-- a flipped form exists where both exchanged lines are chosen, or neither
flip_parts : (b : Bool) (x h : Gate) → ◌≡◌ {A = Option Gate} (cond b (Some x) None) (Some h) → (b ≡ true) × (x ≡ h)
flip_parts true x h e = (refl, some_same x h e)
flip_parts false x h e = absurd (let z : ◌≡◌ {A = ℕ} 0 1 = cc in omega arith)

flipped_formed : (n f : ℕ) (g h : Gate) → Formed fredkin n g → fredkin.flipped f g ≡ Some h → Formed fredkin n h
flipped_formed n f g h fg e =
    let sh = shape n g fg in
    subst (Formed fredkin n) (flip_parts _ _ h e).1
    (formed n _ record {
      sets = flipped_sets n f g.positive g.negative sh.sets;
      order = sh.order;
      below = sh.below;
      off_a = flipped_control f g.positive g.negative g.a (omega (arith, sh.order, sh.below, sh.sets.few)) ∙ sh.off_a;
      off_b = flipped_control f g.positive g.negative g.b (omega (arith, sh.below, sh.sets.few)) ∙ sh.off_b;
    })

flipped_does : (n f : ℕ) (g h : Gate) → Formed fredkin n g → fredkin.flipped f g ≡ Some h → (s : State) → fredkin.sends h s ≡ inverted f (fredkin.sends g (inverted f s))
flipped_does n f g h fg e s =
    ap (λ (x : Gate). fredkin.sends x s) (sym (flip_parts _ _ h e).1)
    ∙ fun_ext λ i.
    ap (λ (b : Bool). cond ((nat_lt g.a width && nat_lt g.b width) && b) (s (other g.a g.b i)) (s i)) (flipped_hold f g.positive g.negative s) ∙ at i (fires g (inverted f s))
  where
    both : bit f g.a ≡ bit f g.b
    both = beq_same _ _ (flip_parts (beq (bit f g.a) (bit f g.b)) (with_flipped_controls_lem f g) h e).0

    alike : (i : ℕ) → bit f (other g.a g.b i) ≡ bit f i
    alike i = which (λ x. bit f (other g.a g.b x) ≡ bit f x) g.a g.b i
        (ap (bit f) (other_a g.a g.b) ∙ sym both) (ap (bit f) (other_b g.a g.b (apart_lines (shape n g fg))) ∙ both) (λ na nb. ap (bit f) (other_else g.a g.b i na nb))

    at : (i : ℕ) (b : Bool) → cond b (s (other g.a g.b i)) (s i) ≡ inverted_if (bit f i) (cond b (inverted f s (other g.a g.b i)) (inverted f s i))
    at i true = sym (ap (λ (b : Bool). inverted_if (bit f i) (inverted_if b (s (other g.a g.b i)))) (alike i) ∙ inverted_if_twice (bit f i) (s (other g.a g.b i)))
    at i false = sym (inverted_if_twice (bit f i) (s i))

flipped_lines : (n f : ℕ) (g h : Gate) → Formed fredkin n g → fredkin.flipped f g ≡ Some h → FlippedLines fredkin f g h
flipped_lines n f g h fg e = subst (FlippedLines fredkin f g) (flip_parts _ _ h e).1 record { positive = refl; negative = refl; targets = refl }

local : (n : ℕ) (g : Gate) → Formed fredkin n g → (s u : State) → fredkin.sends g (upto n s u) ≡ upto n (fredkin.sends g s) u
local n g f s u = fun_ext λ i. at i (cases_lt i n)
  where
    h : Shape n g
    h = shape n g f

    inside : (i : ℕ) → i < n → other g.a g.b i < n
    inside i lt = (which (λ z. z < n → other g.a g.b z < n) g.a g.b i
        (λ _. subst (λ (z : ℕ). z < n) (sym (other_a g.a g.b)) h.below)
        (λ _. subst (λ (z : ℕ). z < n) (sym (other_b g.a g.b (apart_lines h))) (let q : g.a < n = omega (arith, h.order, h.below) in q))
        (λ na nb l. subst (λ (z : ℕ). z < n) (sym (other_else g.a g.b i na nb)) l)) lt

    at : (i : ℕ) → (i < n) ⊎ (n ≤ i) → fredkin.sends g (upto n s u) i ≡ upto n (fredkin.sends g s) u i
    at i (inl lt) =
        ap (λ (b : Bool). cond ((nat_lt g.a width && nat_lt g.b width) && b) (upto n s u (other g.a g.b i)) (upto n s u i)) (steady_upto n g.positive g.negative h.sets s u)
        ∙ ap₂ (λ (v w : Bool). cond (fires g s) v w) (upto_below n s u _ (inside i lt)) (upto_below n s u i lt)
        ∙ sym (upto_below n (fredkin.sends g s) u i lt)
    at i (inr ge) =
        aside g (upto n s u) i (λ e. omega (arith, h.order, h.below)) (λ e. omega (arith, h.below)) ∙ upto_above n s u i ge ∙ sym (upto_above n (fredkin.sends g s) u i ge)

-- a line that a well-formed gate neither reads nor changes is neither exchanged nor a control
module _ (n l : ℕ) (g : Gate) (h : Shape n g) (below-n : l < n) (idle : Idle fredkin g l) where
  -- line a is 1, line b is 0, and the controls hold
  start : State
  start = with_line_lem (bit g.positive) g.a true

  start_a : start g.a ≡ true
  unfolding start
  start_a = with_here (bit g.positive) g.a true

  start_b : start g.b ≡ false
  unfolding start
  start_b = with_there (bit g.positive) g.a g.b true (apart_lines h) ∙ (or_parts (bit g.positive g.b) (bit g.negative g.b) h.off_b).0

  start_holds : controls_hold g.positive g.negative start ≡ true
  unfolding start
  start_holds = steady_with g.positive g.negative (bit g.positive) g.a true h.off_a ∙ ready n g.positive g.negative h.sets

  works_a : (s : State) → controls_hold g.positive g.negative s ≡ true → fredkin.sends g s g.a ≡ s g.b
  works_a s e = ap₂ (λ (b : Bool) (x : ℕ). cond b (s x) (s g.a)) (fires_by n g s h ∙ e) (other_a g.a g.b)

  works_b : (s : State) → controls_hold g.positive g.negative s ≡ true → fredkin.sends g s g.b ≡ s g.a
  works_b s e = ap₂ (λ (b : Bool) (x : ℕ). cond b (s x) (s g.b)) (fires_by n g s h ∙ e) (other_b g.a g.b (apart_lines h))

  not_a : l ≡ g.a → ⊥
  not_a e =
      let off : reads g l ≡ false = ap (reads g) e ∙ h.off_a in
      let holds = steady_with g.positive g.negative start l true off ∙ start_holds in
      let ne : g.b ≡ l → ⊥ = λ q. apart_lines h (q ∙ e) in
      let here : fredkin.sends g (with_line_lem start l true) l ≡ false =
      ap (fredkin.sends g (with_line_lem start l true)) e ∙ works_a (with_line_lem start l true) holds ∙ with_there start l g.b true ne ∙ start_b in
      opposite true (sym here ∙ ap (λ (x : State). x l) (idle start true) ∙ with_here (fredkin.sends g start) l true)

  not_b : l ≡ g.b → ⊥
  not_b e =
      let off : reads g l ≡ false = ap (reads g) e ∙ h.off_b in
      let holds = steady_with g.positive g.negative start l false off ∙ start_holds in
      let ne : g.a ≡ l → ⊥ = λ q. apart_lines h (sym (q ∙ e)) in
      let here : fredkin.sends g (with_line_lem start l false) l ≡ true =
      ap (fredkin.sends g (with_line_lem start l false)) e ∙ works_b (with_line_lem start l false) holds ∙ with_there start l g.a false ne ∙ start_a in
      opposite false (sym here ∙ ap (λ (x : State). x l) (idle start false) ∙ with_here (fredkin.sends g start) l false)

  not_control : reads g l ≡ false
  not_control = by (cases_Bool (reads g l))
    where
      v : Bool
      v = not (start l)

      by : (reads g l ≡ true) ⊎ (reads g l ≡ false) → reads g l ≡ false
      by (inr e) = e
      by (inl c) =
          let ne : g.a ≡ l → ⊥ = λ q. not_a (sym q) in
          let changed : with_line_lem (fredkin.sends g start) l v g.a ≡ false = with_there (fredkin.sends g start) l g.a v ne ∙ works_a start start_holds ∙ start_b in
          let kept : fredkin.sends g (with_line_lem start l v) g.a ≡ true =
          ap (λ (b : Bool). cond b (with_line_lem start l v (other g.a g.b g.a)) (with_line_lem start l v g.a))
          (fires_by n g (with_line_lem start l v) h ∙ fails g.positive g.negative start l (omega (arith, h.sets.few)) c start_holds)
          ∙ with_there start l g.a v ne ∙ start_a in
          absurd (opposite true (sym changed ∙ sym (ap (λ (x : State). x g.a) (idle start v)) ∙ kept))

controlled_formed : (n l : ℕ) (v : Sign) (g : Gate) → Formed fredkin n g → l < n → Idle fredkin g l → Formed fredkin n (fredkin.controlled l v g)
controlled_formed n l v g f lt idle =
    let h = shape n g f in
    let fresh = not_control n l g h lt idle in
    formed n _ record {
      sets = more_sets n l v g.positive g.negative h.sets lt fresh;
      order = h.order;
      below = h.below;
      off_a = more_control n l v g.positive g.negative h.sets lt fresh g.a (omega (arith, h.order, h.below, h.sets.few)) (λ q. not_a n l g h lt idle (sym q)) ∙ h.off_a;
      off_b = more_control n l v g.positive g.negative h.sets lt fresh g.b (omega (arith, h.below, h.sets.few)) (λ q. not_b n l g h lt idle (sym q)) ∙ h.off_b;
    }

controlled_does : (n l : ℕ) (v : Sign) (g : Gate) → Formed fredkin n g → l < n → Idle fredkin g l → (s : State) → fredkin.sends (fredkin.controlled l v g) s ≡ cond (beq (s l) (wanted v)) (fredkin.sends g s) s
controlled_does n l v g f lt idle s =
    let h = shape n g f in
    fun_ext λ i.
    ap (λ (b : Bool). cond ((nat_lt g.a width && nat_lt g.b width) && b) (s (other g.a g.b i)) (s i)) (more_hold n l v g.positive g.negative h.sets lt (not_control n l g h lt idle) s)
    ∙ at i (beq (s l) (wanted v))
  where
    none : (x v w : Bool) → cond (x && false) v w ≡ w
    none true v w = refl
    none false v w = refl

    at : (i : ℕ) (b : Bool) → cond ((nat_lt g.a width && nat_lt g.b width) && (b && controls_hold g.positive g.negative s)) (s (other g.a g.b i)) (s i) ≡ cond b (fredkin.sends g s) s i
    at i true = refl
    at i false = none (nat_lt g.a width && nat_lt g.b width) (s (other g.a g.b i)) (s i)

pub fredkin_laws : KindLaws fredkin
fredkin_laws = record {
  local = local;
  changes = changes;
  targets_apart = targets_apart;
  undoes = self;
  undone = self;
  inverse_formed = λ n g f. f;
  inverse_twice = λ n g f. refl;
  inverse_lines = λ n g f. record { positive = refl; negative = refl; targets = refl };
  interchange = swap;
  renamed_on = renamed_on;
  renamed_off = renamed_off;
  renamed_formed = renamed_formed;
  renamed_lines = renamed_lines;
  renamed_back = renamed_back;
  renamed_same = renamed_same;
  flipped_does = flipped_does;
  flipped_formed = flipped_formed;
  flipped_lines = flipped_lines;
  controlled_does = controlled_does;
  controlled_formed = controlled_formed;
  controlled_lines = λ n l v g f lt idle. record { positive = refl; negative = refl; targets = refl };
}
