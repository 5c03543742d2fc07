-- Each test of a template decides its rule, and all together whether the rules are met.
use Rattle.std.proofs.Common.{◌≡◌, ℕ, suc, ◌^◌, ◌<◌, ◌≤◌, Bool, true, false, not, ◌&&◌, ◌||◌, leb, ◌⊎◌, List, [], ◌∷◌, length, None, Decides, Option, sym, refl, ap, ◌∙◌, subst, ap₂, inl, inr, arith}
use Rattle.std.specs.List.{AllByRecursion}
use mathlib.Core.Path.{fun_ext}
use mathlib.Core.Bool.{beq}
use Rattle.std.proofs.lemmas.Bool.{cases_lt, leb-true, le-leb, both_ways}
use Rattle.std.proofs.lemmas.Bool.Decides.{Decides-and}
use Rattle.std.proofs.ByRecursion.{Decides-by_and}
use Rattle.gates.specs.declared.gate.Gate.{Gate}
use Rattle.gates.specs.declared.gate.GateRefusal.TheVariants.{NotWellFormed}
use Rattle.gates.specs.Lines.{State, width, bit, where_below}
use Rattle.gates.specs.Kinds.{KindMeaning, KindLaws, Formed}
use Rattle.gates.specs.Cascades.{run, Restores, picked}
use Rattle.gates.specs.States.{beq_same}
use Rattle.gates.specs.Members.{bit_where, where_lt, every_at, every_of}
use Rattle.gates.proofs.Runs.{run_above, few_states}
use Rattle.gates.proofs.Moving.{all_picked}
use Rattle.workspace.specs.declared.refusal.TemplateRefusal.{TemplateRefusal}
use Rattle.workspace.specs.declared.refusal.TemplateRefusal.TheVariants.{Lines, Size, Gate as NotFormed, Groups, Whole, Selection}
use Rattle.workspace.specs.Templates.{TemplateMeaning, size, in_selected, outside_selected, unselected, IsGroup, LinesRule, SizeRule, GatesRule, GroupsRule, WholeRule, SelectionsRule, MeetsRules}
use Rattle.workspace.specs.TemplateTests.{all_pass, agree, restores_test, lines_test, size_test, gates_test, group_test, groups_test, whole_test, selections_test, tested, template_test, Breaks, AnswersRules, RuleLaws}
use Rattle.workspace.proofs.GroupSets.{decides_group}

pub decides_leb : (a b : ℕ) → Decides (leb a b) (a ≤ b)
decides_leb a b = (leb-true a b, le-leb a b)

pub decides_true : (b : Bool) → Decides b (b ≡ true)
decides_true b = ((λ h. h), (λ h. h))

decides_lines : (t : TemplateMeaning) → Decides (lines_test t) (LinesRule t)
decides_lines t = Decides-and (leb 1 t.lines) (leb t.lines 4) (decides_leb 1 t.lines) (decides_leb t.lines 4)

decides_size : (t : TemplateMeaning) → Decides (size_test t) (SizeRule t)
decides_size t = Decides-and (leb 2 (size t)) (leb (size t) 8) (decides_leb 2 (size t)) (decides_leb (size t) 8)

decides_gates : (k : KindMeaning) (t : TemplateMeaning) → Decides (gates_test k t) (GatesRule k t)
decides_gates k t = Decides-by_and (k.form t.lines) (Formed k t.lines) (all_pass (k.form t.lines)) (λ g. decides_true (k.form t.lines g)) refl (λ _ _. refl) t.gates

decides_groups : (t : TemplateMeaning) → Decides (groups_test t) (GroupsRule t)
decides_groups t =
    Decides-and (leb (length t.groups) 3) (all_pass (group_test (size t)) t.groups) (decides_leb (length t.groups) 3)
    (Decides-by_and (group_test (size t)) (IsGroup (size t)) (all_pass (group_test (size t))) (decides_group (size t)) refl (λ _ _. refl) t.groups)

beq_own : (b : Bool) → beq b b ≡ true
beq_own true = refl
beq_own false = refl

pub agree_of : (s u : State) → s ≡ u → agree s u ≡ true
agree_of s u e = every_of width (λ i. beq (s i) (u i)) (λ i lt. ap (λ (x : State). beq (x i) (u i)) e ∙ beq_own (u i))

pub agree_at : (s u : State) → agree s u ≡ true → (i : ℕ) → i < width → s i ≡ u i
agree_at s u h i lt = beq_same (s i) (u i) (every_at width (λ i. beq (s i) (u i)) h i lt)

-- a selection counts only as far as there are groups
selected_same : (a b : ℕ → Bool) (groups : List ℕ) (p : ℕ) → ((i : ℕ) → i < length groups → a i ≡ b i) → in_selected a groups p ≡ in_selected b groups p
selected_same a b [] p h = refl
selected_same a b (m ∷ groups) p h =
    ap₂ (λ (x y : Bool). (x && bit m p) || y) (h 0 (omega arith)) (selected_same (λ i. a (suc i)) (λ i. b (suc i)) groups p (λ i lt. h (suc i) (omega arith)))

-- every selection is, as far as there are groups, a set of their places
unselected_same : (t : TemplateMeaning) (selection : ℕ → Bool) → unselected (bit (where_below (length t.groups) selection)) t ≡ unselected selection t
unselected_same t selection =
    ap (λ (c : ℕ → Bool). picked c t.gates)
    (fun_ext λ p. ap not (selected_same (bit (where_below (length t.groups) selection)) selection t.groups p (λ i lt. bit_where (length t.groups) selection i lt)))

module _ {k : KindMeaning} (laws : KindLaws k) where
  decides_restores : (n : ℕ) (gates : List Gate) → n ≤ width → AllByRecursion (Formed k n) gates → Decides (restores_test k n gates) (Restores k gates)
  decides_restores n gates few formed = (
    (λ h. few_states laws n gates formed (λ x lt. fun_ext λ i. at x (every_at (2 ^ n) (λ y. agree (run k gates (bit y)) (bit y)) h x lt) i (cases_lt i width))),
    (λ r. every_of (2 ^ n) (λ y. agree (run k gates (bit y)) (bit y)) (λ x lt. agree_of (run k gates (bit x)) (bit x) (r (bit x)))),
  )
    where
      at : (x : ℕ) → agree (run k gates (bit x)) (bit x) ≡ true → (i : ℕ) → (i < width) ⊎ (width ≤ i) → run k gates (bit x) i ≡ bit x i
      at x h i (inl lt) = agree_at (run k gates (bit x)) (bit x) h i lt
      at x h i (inr ge) = run_above laws n gates formed (bit x) i (omega arith)

  module _ (t : TemplateMeaning) (few : LinesRule t) (formed : GatesRule k t) where
    narrow : t.lines ≤ width
    narrow = omega (arith, few.1)

    decides_whole : Decides (whole_test k t) (WholeRule k t)
    decides_whole = decides_restores t.lines t.gates narrow formed

    part : (selection : ℕ → Bool) → Decides (restores_test k t.lines (unselected selection t)) (Restores k (unselected selection t))
    part selection =
        decides_restores t.lines (unselected selection t) narrow (all_picked (Formed k t.lines) (outside_selected selection t.groups) t.gates formed)

    decides_selections : Decides (selections_test k t) (SelectionsRule k t)
    decides_selections = (
      (λ h selection.
          let m = where_below (length t.groups) selection in
          subst (Restores k) (unselected_same t selection) ((part (bit m)).0 (every_at (2 ^ length t.groups) each h m (where_lt (length t.groups) selection)))),
      (λ r. every_of (2 ^ length t.groups) each (λ m lt. (part (bit m)).1 (r (bit m)))),
    )
      where
        each : ℕ → Bool
        each m = restores_test k t.lines (unselected (bit m) t)

  -- one test more
  step : (t : TemplateMeaning) {P : Type 0} (b : Bool) → Decides b P → (refusal : TemplateRefusal) (later : Option TemplateRefusal)
      → ((P → ⊥) → Breaks k t refusal) → (P → AnswersRules k t later) → AnswersRules k t (tested b refusal later)
  step t true d refusal later broken met = met (d.0 refl)
  step t false d refusal later broken met = broken (λ p. both_ways false refl (d.1 p))

  answers : (t : TemplateMeaning) → AnswersRules k t (template_test k t)
  answers t =
      step t (lines_test t) (decides_lines t) Lines _ (λ no. no) λ lines.
      step t (size_test t) (decides_size t) Size _ (λ no. (lines, no)) λ size.
      step t (gates_test k t) (decides_gates k t) (NotFormed NotWellFormed) _ (λ no. (lines, size, no)) λ gates.
      step t (groups_test t) (decides_groups t) Groups _ (λ no. (lines, size, gates, no)) λ groups.
      step t (whole_test k t) (decides_whole t lines gates) Whole _ (λ no. (lines, size, gates, groups, no)) λ whole.
      step t (selections_test k t) (decides_selections t lines gates) Selection None (λ no. (lines, size, gates, groups, whole, no)) λ selections.
      record { lines = lines; size = size; gates = gates; groups = groups; whole = whole; selections = selections }

  -- an answer that is that of the tests is right
  pub answered : (t : TemplateMeaning) (answer : Option TemplateRefusal) → answer ≡ template_test k t → AnswersRules k t answer
  answered t answer is = subst (AnswersRules k t) (sym is) (answers t)

  -- a test that is passed leaves it to the later ones
  passed : (b : Bool) (refusal : TemplateRefusal) (later : Option TemplateRefusal) → b ≡ true → tested b refusal later ≡ later
  passed b refusal later e = ap (λ (x : Bool). tested x refusal later) e

  accepts : (t : TemplateMeaning) → MeetsRules k t → template_test k t ≡ None
  accepts t meets =
      passed (lines_test t) Lines _ ((decides_lines t).1 meets.lines)
      ∙ passed (size_test t) Size _ ((decides_size t).1 meets.size)
      ∙ passed (gates_test k t) (NotFormed NotWellFormed) _ ((decides_gates k t).1 meets.gates)
      ∙ passed (groups_test t) Groups _ ((decides_groups t).1 meets.groups)
      ∙ passed (whole_test k t) Whole _ ((decides_whole t meets.lines meets.gates).1 meets.whole)
      ∙ passed (selections_test k t) Selection None ((decides_selections t meets.lines meets.gates).1 meets.selections)

pub rule_laws_lem : (k : KindMeaning) → KindLaws k → RuleLaws k
rule_laws_lem k laws = record {
  lines = decides_lines;
  size = decides_size;
  gates = decides_gates k;
  groups = decides_groups;
  whole = decides_whole laws;
  selections = decides_selections laws;
  answers = answers laws;
  accepts = accepts laws;
}
