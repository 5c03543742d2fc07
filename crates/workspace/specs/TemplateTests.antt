-- The tests that decide whether a template meets the rules, in the order in which they are tried.
use Rattle.std.specs.Prelude.{◌≡◌, ℕ, ◌^◌, Bool, true, false, ◌&&◌, List, length, Some, None, Decides, Option, count_ones, nat_le, nat_lt}
use Rattle.std.specs.Bool.{beq}
use Rattle.std.specs.List.{list_all}
use Rattle.gates.specs.declared.gate.Gate.{Gate}
use Rattle.gates.specs.declared.gate.GateRefusal.TheVariants.{NotWellFormed}
use Rattle.gates.specs.Lines.{State, width, bit, every_below}
use Rattle.gates.specs.Kinds.{KindMeaning}
use Rattle.gates.specs.Cascades.{run}
use Rattle.workspace.specs.declared.refusal.TemplateRefusal.{TemplateRefusal}
use Rattle.workspace.specs.declared.refusal.TemplateRefusal.TheVariants.{Lines, Size, Gate as NotFormed, Groups, Whole, Selection, ShelfFull, NoSuchEntry}
use Rattle.workspace.specs.Templates.{TemplateMeaning, size, unselected, LinesRule, SizeRule, GatesRule, GroupsRule, WholeRule, SelectionsRule, MeetsRules}

-- every element passes
abbrev pub all_pass : {X : Type 0} → (X → Bool) → List X → Bool
all_pass test xs = list_all test xs

-- one to four lines
abbrev pub lines_test : TemplateMeaning → Bool
lines_test t = nat_le 1 t.lines && nat_le t.lines 4

-- two to eight gates
abbrev pub size_test : TemplateMeaning → Bool
size_test t = nat_le 2 (size t) && nat_le (size t) 8

-- every gate is well formed for the template's lines
abbrev pub gates_test : KindMeaning → TemplateMeaning → Bool
gates_test k t = all_pass (k.form t.lines) t.gates

-- at least two positions, all of them below m
abbrev pub group_test : ℕ → ℕ → Bool
group_test m group = nat_le 2 (count_ones group) && nat_lt group (2 ^ m)

-- at most three groups, each of which passes
abbrev pub groups_test : TemplateMeaning → Bool
groups_test t = nat_le (length t.groups) 3 && all_pass (group_test (size t)) t.groups

-- the states are equal on all lines that a state in memory has
abbrev pub agree : State → State → Bool
agree s u = every_below width (λ i. beq (s i) (u i))

-- the gates restore each of the states of n lines
abbrev pub restores_test : KindMeaning → ℕ → List Gate → Bool
restores_test k n gates = every_below (2 ^ n) (λ x. agree (run k gates (bit x)) (bit x))

-- the whole template restores each of the states of its lines
abbrev pub whole_test : KindMeaning → TemplateMeaning → Bool
whole_test k t = restores_test k t.lines t.gates

-- for each selection of the groups, a set of their places in the list, so do the gates in none of the selected
abbrev pub selections_test : KindMeaning → TemplateMeaning → Bool
selections_test k t = every_below (2 ^ length t.groups) (λ m. restores_test k t.lines (unselected (bit m) t))

-- the refusal where the test fails, else what comes of the later tests
abbrev pub tested : Bool → TemplateRefusal → Option TemplateRefusal → Option TemplateRefusal
tested true refusal later = later
tested false refusal later = Some refusal

-- why the template is refused, if it is
abbrev pub template_test : KindMeaning → TemplateMeaning → Option TemplateRefusal
template_test k t =
    tested (lines_test t) Lines
    (tested (size_test t) Size
    (tested (gates_test k t) (NotFormed NotWellFormed)
    (tested (groups_test t) Groups
    (tested (whole_test k t) Whole
    (tested (selections_test k t) Selection None)))))

-- the rule of that refusal does not hold, and those tried before it do
abbrev pub Breaks : KindMeaning → TemplateMeaning → TemplateRefusal → Type 0
Breaks k t Lines = LinesRule t → ⊥
Breaks k t Size = LinesRule t × (SizeRule t → ⊥)
Breaks k t (NotFormed refusal) = LinesRule t × SizeRule t × (GatesRule k t → ⊥)
Breaks k t Groups = LinesRule t × SizeRule t × GatesRule k t × (GroupsRule t → ⊥)
Breaks k t Whole = LinesRule t × SizeRule t × GatesRule k t × GroupsRule t × (WholeRule k t → ⊥)
Breaks k t Selection = LinesRule t × SizeRule t × GatesRule k t × GroupsRule t × WholeRule k t × (SelectionsRule k t → ⊥)
Breaks k t ShelfFull = ⊥
Breaks k t NoSuchEntry = ⊥

-- the answer is right: all rules are met where there is no refusal, and else the rule of the refusal is the first that is broken
abbrev pub AnswersRules : KindMeaning → TemplateMeaning → Option TemplateRefusal → Type 0
AnswersRules k t None = MeetsRules k t
AnswersRules k t (Some refusal) = Breaks k t refusal

-- each test decides its rule, and so they decide together whether all rules are met
pub record RuleLaws (k : KindMeaning) : Type 0 where
  pub lines : (t : TemplateMeaning) → Decides (lines_test t) (LinesRule t)
  pub size : (t : TemplateMeaning) → Decides (size_test t) (SizeRule t)
  pub gates : (t : TemplateMeaning) → Decides (gates_test k t) (GatesRule k t)
  pub groups : (t : TemplateMeaning) → Decides (groups_test t) (GroupsRule t)
  pub whole : (t : TemplateMeaning) → LinesRule t → GatesRule k t → Decides (whole_test k t) (WholeRule k t)
  pub selections : (t : TemplateMeaning) → LinesRule t → GatesRule k t → Decides (selections_test k t) (SelectionsRule k t)
  pub answers : (t : TemplateMeaning) → AnswersRules k t (template_test k t)
  pub accepts : (t : TemplateMeaning) → MeetsRules k t → template_test k t ≡ None
