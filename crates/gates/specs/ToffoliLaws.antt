-- Toffoli gates keep the laws of a kind.
use Rattle.std.specs.Prelude.{◌≡◌, ℕ, ◌<◌, ◌≤◌, Bool, true, false, cond, not, ◌&&◌, ◌⊎◌, List, Some, ◌==◌, ◌≢◌, nat_lt, slice_index, refl}
use Rattle.std.proofs.Common.{sym, ap₂, ◌∙◌, subst, inl, inr, arith}
use Rattle.std.proofs.Math.Path.{ap, fun_ext}
use Rattle.std.specs.Bool.{beq}
use Rattle.std.proofs.lemmas.Bool.{both_ways, cases_lt, cases_eq, cases_Bool, eq-eqb, ne_eqb, eqb-true, ltb-true, lt-ltb, and_parts, and_from, not-true, not_from_false}
use Rattle.gates.specs.declared.gate.Gate.{Gate}
use Rattle.gates.specs.declared.gate.Sign.{Sign}
use Rattle.gates.specs.Lines.{State, Table, Outside, width, bit, with_line_lem, upto, inverted_if, inverted, through, unmoved}
use Rattle.gates.specs.Kinds.{KindLaws, Formed, Idle, MovedLines, FlippedLines}
use Rattle.gates.specs.Controls.{gate, reads, controls_hold, with_member, wanted}
use Rattle.gates.specs.Toffoli.{fires, toffoli}
use Rattle.gates.specs.States.{with_here, with_there, upto_below, upto_above, through_at, inverted_if_twice, inverted_if_both, opposite}
use Rattle.gates.specs.ControlSets.{Sets, sets_of, form_of, steady, steady_with, steady_upto, ready, fails, in_table, table_lt, outside_ne, same_line, control_at, renamed_sets, renamed_hold, only_member, is_member, empty_renamed, member_renamed, set_back, unmoved_at, set_unmoved, flipped_sets, flipped_control, flipped_hold, more_control, more_hold, more_sets}

-- what a well-formed gate has
record Shape (n : ℕ) (g : Gate) : Type 0 where
  sets : Sets n g.positive g.negative
  target : g.a < n
  unused : g.b ≡ 0
  off : reads g g.a ≡ false

shape : (n : ℕ) (g : Gate) → Formed toffoli n g → Shape n g
shape n g h =
    let h1 = and_parts _ _ h in
    let h2 = and_parts _ _ h1.1 in
    let h3 = and_parts _ _ h2.1 in
    record { sets = sets_of n g.positive g.negative h1.0; target = ltb-true g.a n h2.0; unused = eqb-true g.b 0 h3.0; off = not-true _ h3.1 }

formed : (n : ℕ) (g : Gate) → Shape n g → Formed toffoli n g
formed n g h =
    and_from _ _ (form_of n g.positive g.negative h.sets)
    (and_from _ _ (lt-ltb g.a n h.target) (and_from _ _ (eq-eqb g.b 0 h.unused) (not_from_false _ h.off)))

-- a target below the width leaves it to the controls
fires_by : (g : Gate) (s : State) → g.a < width → fires g s ≡ controls_hold g.positive g.negative s
fires_by g s lt = ap (λ (b : Bool). b && controls_hold g.positive g.negative s) (lt-ltb g.a width lt)

inside : (n : ℕ) (g : Gate) → Shape n g → g.a < width
inside n g h = omega (arith, h.target, h.sets.few)

-- a gate leaves the lines that are not its target
aside : (g : Gate) (s : State) (i : ℕ) → (i ≢ g.a) → toffoli.sends g s i ≡ s i
aside g s i ne = ap (λ (b : Bool). inverted_if (b && fires g s) (s i)) (ne_eqb i g.a ne)

-- a gate whose target is no control of h does not make h fire, nor keep it from firing
unseen : (g h : Gate) (s : State) → reads h g.a ≡ false → fires h (toffoli.sends g s) ≡ fires h s
unseen g h s e = ap (λ (b : Bool). nat_lt h.a width && b) (steady h.positive h.negative (toffoli.sends g s) s (λ i lt. at i (cases_eq i g.a)))
  where
    at : (i : ℕ) → (i ≡ g.a) ⊎ (i ≢ g.a) → (reads h i ≡ false) ⊎ (toffoli.sends g s i ≡ s i)
    at i (inl q) = inl (ap (reads h) q ∙ e)
    at i (inr ne) = inr (aside g s i ne)

changes : (n : ℕ) (g : Gate) → Formed toffoli n g → (s : State) (i : ℕ) → bit (toffoli.targets g) i ≡ false → toffoli.sends g s i ≡ s i
changes n g f s i h = aside g s i (λ e. both_ways (bit (with_member g.a 0) i) h (ap (bit (with_member g.a 0)) e ∙ is_member g.a 0 (inside n g (shape n g f))))

targets_apart : (n : ℕ) (g : Gate) → Formed toffoli n g → (i : ℕ) → bit (toffoli.targets g) i ≡ true → (i < n) × (reads g i ≡ false)
targets_apart n g f i h =
    let sh = shape n g f in
    let same : i ≡ g.a = only_member g.a i h in
    (omega (arith, same, sh.target), ap (reads g) same ∙ sh.off)

self : (n : ℕ) (g : Gate) → Formed toffoli n g → (s : State) → toffoli.sends g (toffoli.sends g s) ≡ s
self n g f s = fun_ext λ i.
    ap (λ (b : Bool). inverted_if (i == g.a && b) (toffoli.sends g s i)) (unseen g g s (shape n g f).off) ∙ inverted_if_twice (i == g.a && fires g s) (s i)

swap : (g h : Gate) → toffoli.free g h ≡ true → (s : State) → toffoli.sends h (toffoli.sends g s) ≡ toffoli.sends g (toffoli.sends h s)
swap g h f s = fun_ext λ i.
    let both = and_parts (not (reads h g.a)) (not (reads g h.a)) f in
    ap (λ (b : Bool). inverted_if (i == h.a && b) (toffoli.sends g s i)) (unseen g h s (not-true _ both.0))
    ∙ inverted_if_both (i == h.a && fires h s) (i == g.a && fires g s) (s i)
    ∙ sym (ap (λ (b : Bool). inverted_if (i == g.a && b) (toffoli.sends h s i)) (unseen h g s (not-true _ both.1)))

module _ (l n : ℕ) (t : List ℕ) (g : Gate) (table : Table l n t) (f : Formed toffoli l g) where
  renamed_shape : Shape n (toffoli.renamed t g)
  renamed_shape =
      let h = shape l g f in
      record {
        sets = renamed_sets l n t table g.positive g.negative h.sets;
        target = table_lt l n t table g.a (in_table l n t table g.a h.target);
        unused = refl;
        off = control_at l n t table g.positive g.negative h.sets g.a h.target ∙ h.off;
      }

  renamed_formed : Formed toffoli n (toffoli.renamed t g)
  renamed_formed = formed n _ renamed_shape

  renamed_fires : (s : State) → fires (toffoli.renamed t g) s ≡ fires g (through t s)
  renamed_fires s =
      let h = shape l g f in
      fires_by (toffoli.renamed t g) s (inside n _ renamed_shape) ∙ renamed_hold l n t table g.positive g.negative h.sets s ∙ sym (fires_by g (through t s) (inside l g h))

  renamed_on : (s : State) (i : ℕ) → i < l → toffoli.sends (toffoli.renamed t g) s (slice_index t i) ≡ toffoli.sends g (through t s) i
  renamed_on s i lt =
      ap₂ (λ (b c : Bool). inverted_if (b && c) (s (slice_index t i))) (same_line l n t table i g.a lt (shape l g f).target) (renamed_fires s)
      ∙ ap (inverted_if (i == g.a && fires g (through t s))) (sym (through_at t s i (in_table l n t table i lt)))

  renamed_off : (s : State) (j : ℕ) → Outside t j → toffoli.sends (toffoli.renamed t g) s j ≡ s j
  renamed_off s j out = aside (toffoli.renamed t g) s j (outside_ne l n t table j out g.a (shape l g f).target)

  renamed_lines : MovedLines toffoli t g (toffoli.renamed t g)
  renamed_lines =
      let h = shape l g f in
      record {
        positive = refl;
        negative = refl;
        targets = ap (with_member (slice_index t g.a)) (sym (empty_renamed l n t table)) ∙ member_renamed l n t table g.a 0 h.target h.sets.few;
      }

renamed_back : (n : ℕ) (t u : List ℕ) (g : Gate) → Table n n t → Table n n u → ((i : ℕ) → i < n → slice_index u (slice_index t i) ≡ i) → Formed toffoli n g → toffoli.renamed u (toffoli.renamed t g) ≡ g
renamed_back n t u g table back inv f =
    let h = shape n g f in
    λ i. gate (inv g.a h.target i) (sym h.unused i) (set_back n t u table back inv g.positive h.sets.small_p i) (set_back n t u table back inv g.negative h.sets.small_q i)

renamed_same : (n : ℕ) (g : Gate) → Formed toffoli n g → toffoli.renamed (unmoved n) g ≡ g
renamed_same n g f =
    let h = shape n g f in
    λ i. gate (unmoved_at n g.a h.target i) (sym h.unused i) (set_unmoved n g.positive h.sets.few h.sets.small_p i) (set_unmoved n g.negative h.sets.few h.sets.small_q i)

pub some_same : (x y : Gate) → Some x ≡ Some y → x ≡ y
some_same x y e = cc

flipped_formed : (n f : ℕ) (g h : Gate) → Formed toffoli n g → toffoli.flipped f g ≡ Some h → Formed toffoli n h
flipped_formed n f g h fg e =
    let sh = shape n g fg in
    subst (Formed toffoli n) (some_same _ _ e)
    (formed n _ record {
      sets = flipped_sets n f g.positive g.negative sh.sets;
      target = sh.target;
      unused = sh.unused;
      off = flipped_control f g.positive g.negative g.a (inside n g sh) ∙ sh.off;
    })

flipped_does : (n f : ℕ) (g h : Gate) → Formed toffoli n g → toffoli.flipped f g ≡ Some h → (s : State) → toffoli.sends h s ≡ inverted f (toffoli.sends g (inverted f s))
flipped_does n f g h fg e s =
    ap (λ (x : Gate). toffoli.sends x s) (sym (some_same _ _ e))
    ∙ fun_ext λ i.
    ap (λ (b : Bool). inverted_if (i == g.a && (nat_lt g.a width && b)) (s i)) (flipped_hold f g.positive g.negative s)
    ∙ sym (inverted_if_both (bit f i) (i == g.a && fires g (inverted f s)) (inverted f s i) ∙ ap (inverted_if (i == g.a && fires g (inverted f s))) (inverted_if_twice (bit f i) (s i)))

flipped_lines : (n f : ℕ) (g h : Gate) → Formed toffoli n g → toffoli.flipped f g ≡ Some h → FlippedLines toffoli f g h
flipped_lines n f g h fg e = subst (FlippedLines toffoli f g) (some_same _ _ e) record { positive = refl; negative = refl; targets = refl }

local : (n : ℕ) (g : Gate) → Formed toffoli n g → (s u : State) → toffoli.sends g (upto n s u) ≡ upto n (toffoli.sends g s) u
local n g f s u = fun_ext λ i. at i (cases_lt i n)
  where
    h : Shape n g
    h = shape n g f

    at : (i : ℕ) → (i < n) ⊎ (n ≤ i) → toffoli.sends g (upto n s u) i ≡ upto n (toffoli.sends g s) u i
    at i (inl lt) =
        ap₂ (λ (b v : Bool). inverted_if (i == g.a && (nat_lt g.a width && b)) v) (steady_upto n g.positive g.negative h.sets s u) (upto_below n s u i lt)
        ∙ sym (upto_below n (toffoli.sends g s) u i lt)
    at i (inr ge) = aside g (upto n s u) i (λ e. omega (arith, h.target)) ∙ upto_above n s u i ge ∙ sym (upto_above n (toffoli.sends g s) u i ge)

-- a line that a well-formed gate neither reads nor changes is neither its target nor a control
module _ (n l : ℕ) (g : Gate) (h : Shape n g) (below : l < n) (idle : Idle toffoli g l) where
  start : State
  start = bit g.positive

  works : (s : State) → controls_hold g.positive g.negative s ≡ true → toffoli.sends g s g.a ≡ not (s g.a)
  works s e = ap (λ (b : Bool). inverted_if b (s g.a)) (and_from _ _ (eq-eqb g.a g.a refl) (fires_by g s (inside n g h) ∙ e))

  not_target : l ≡ g.a → ⊥
  unfolding start
  not_target e =
      let holds : controls_hold g.positive g.negative (with_line_lem start l true) ≡ true = steady_with g.positive g.negative start l true (ap (reads g) e ∙ h.off) ∙ ready n g.positive g.negative h.sets in
      opposite true
      (sym (subst (λ (x : ℕ). toffoli.sends g (with_line_lem start l true) x ≡ not (with_line_lem start l true x)) (sym e) (works (with_line_lem start l true) holds) ∙ ap not (with_here start l true))
      ∙ ap (λ (x : State). x l) (idle start true) ∙ with_here (toffoli.sends g start) l true)

  rests : (s : State) → controls_hold g.positive g.negative s ≡ false → toffoli.sends g s g.a ≡ s g.a
  rests s e = ap (λ (b : Bool). inverted_if (g.a == g.a && b) (s g.a)) (fires_by g s (inside n g h) ∙ e) ∙ after (g.a == g.a)
    where
      after : (b : Bool) → inverted_if (b && false) (s g.a) ≡ s g.a
      after true = refl
      after false = refl

  not_control : reads g l ≡ false
  unfolding start
  not_control = by (cases_Bool (reads g l))
    where
      v : Bool
      v = not (start l)

      by : (reads g l ≡ true) ⊎ (reads g l ≡ false) → reads g l ≡ false
      by (inr e) = e
      by (inl c) =
          let ne : g.a ≡ l → ⊥ = λ q. not_target (sym q) in
          let holds = ready n g.positive g.negative h.sets in
          absurd (opposite (start g.a)
          (sym (works start holds)
          ∙ sym (with_there (toffoli.sends g start) l g.a v ne)
          ∙ sym (ap (λ (x : State). x g.a) (idle start v))
          ∙ rests (with_line_lem start l v) (fails g.positive g.negative start l (omega (arith, h.sets.few)) c holds)
          ∙ with_there start l g.a v ne))

controlled_formed : (n l : ℕ) (v : Sign) (g : Gate) → Formed toffoli n g → l < n → Idle toffoli g l → Formed toffoli n (toffoli.controlled l v g)
controlled_formed n l v g f lt idle =
    let h = shape n g f in
    let fresh = not_control n l g h lt idle in
    formed n _ record {
      sets = more_sets n l v g.positive g.negative h.sets lt fresh;
      target = h.target;
      unused = h.unused;
      off = more_control n l v g.positive g.negative h.sets lt fresh g.a (inside n g h) (λ q. not_target n l g h lt idle (sym q)) ∙ h.off;
    }

controlled_does : (n l : ℕ) (v : Sign) (g : Gate) → Formed toffoli n g → l < n → Idle toffoli g l → (s : State)
    → toffoli.sends (toffoli.controlled l v g) s ≡ cond (beq (s l) (wanted v)) (toffoli.sends g s) s
controlled_does n l v g f lt idle s =
    let h = shape n g f in
    fun_ext λ i.
    ap (λ (b : Bool). inverted_if (i == g.a && (nat_lt g.a width && b)) (s i)) (more_hold n l v g.positive g.negative h.sets lt (not_control n l g h lt idle) s)
    ∙ at i (beq (s l) (wanted v))
  where
    none : (x y v : Bool) → inverted_if (x && (y && false)) v ≡ v
    none true true v = refl
    none true false v = refl
    none false y v = refl

    at : (i : ℕ) (b : Bool) → inverted_if (i == g.a && (nat_lt g.a width && (b && controls_hold g.positive g.negative s))) (s i) ≡ cond b (toffoli.sends g s) s i
    at i true = refl
    at i false = none (i == g.a) (nat_lt g.a width) (s i)

pub toffoli_laws : KindLaws toffoli
toffoli_laws = record {
  local = local;
  changes = changes;
  targets_apart = targets_apart;
  undoes = self;
  undone = self;
  inverse_formed = λ n g f. f;
  inverse_twice = λ n g f. refl;
  inverse_lines = λ n g f. record { positive = refl; negative = refl; targets = refl };
  interchange = λ n g h f f'. swap g h;
  renamed_on = renamed_on;
  renamed_off = renamed_off;
  renamed_formed = renamed_formed;
  renamed_lines = renamed_lines;
  renamed_back = renamed_back;
  renamed_same = renamed_same;
  flipped_does = flipped_does;
  flipped_formed = flipped_formed;
  flipped_lines = flipped_lines;
  controlled_does = controlled_does;
  controlled_formed = controlled_formed;
  controlled_lines = λ n l v g f lt idle. record { positive = refl; negative = refl; targets = refl };
}
