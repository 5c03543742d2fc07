-- Templates: short cascades that restore every state, and the rules that they meet.
use Rattle.std.specs.Prelude.{◌≡◌, ℕ, suc, ◌<◌, ◌≤◌, Bool, true, false, not, ◌&&◌, ◌||◌, List, [], ◌∷◌, length}
use Rattle.std.specs.List.{AllByRecursion}
use Rattle.gates.specs.declared.gate.Gate.{Gate}
use Rattle.gates.specs.Lines.{bit}
use Rattle.gates.specs.Kinds.{KindMeaning, Formed}
use Rattle.gates.specs.Cascades.{Restores, picked}

-- a template: its number of lines, its gates, and its listed groups; positions count from 0, and a group is a set of positions
pub record TemplateMeaning : Type 0 where
  pub lines : ℕ
  pub gates : List Gate
  pub groups : List ℕ

-- the number of the template's gates
abbrev pub size : TemplateMeaning → ℕ
size t = length t.gates

-- position p is in a selected group; the i-th listed group is selected where the selection holds of i
abbrev pub in_selected : (ℕ → Bool) → List ℕ → ℕ → Bool
in_selected selection [] p = false
in_selected selection (group ∷ groups) p = (selection 0 && bit group p) || in_selected (λ i. selection (suc i)) groups p

-- position p is in none of the selected groups
abbrev pub outside_selected : (ℕ → Bool) → List ℕ → ℕ → Bool
outside_selected selection groups p = not (in_selected selection groups p)

-- the gates in none of the selected groups, in order
abbrev pub unselected : (ℕ → Bool) → TemplateMeaning → List Gate
unselected selection t = picked (outside_selected selection t.groups) t.gates

-- a set of at least two positions, all of them below m
pub record IsGroup (m group : ℕ) : Type 0 where
  pub two : (i : ℕ) × (j : ℕ) × (i < j) × (bit group i ≡ true) × (bit group j ≡ true)
  pub within : (i : ℕ) → bit group i ≡ true → i < m

-- one to four lines
abbrev pub LinesRule : TemplateMeaning → Type 0
LinesRule t = (1 ≤ t.lines) × (t.lines ≤ 4)

-- two to eight gates
abbrev pub SizeRule : TemplateMeaning → Type 0
SizeRule t = (2 ≤ size t) × (size t ≤ 8)

-- every gate is well formed for the template's lines
abbrev pub GatesRule : KindMeaning → TemplateMeaning → Type 0
GatesRule k t = AllByRecursion (Formed k t.lines) t.gates

-- at most three groups, each a set of at least two of the template's positions
abbrev pub GroupsRule : TemplateMeaning → Type 0
GroupsRule t = (length t.groups ≤ 3) × AllByRecursion (IsGroup (size t)) t.groups

-- run whole, the template restores every state
abbrev pub WholeRule : KindMeaning → TemplateMeaning → Type 0
WholeRule k t = Restores k t.gates

-- for every selection of its groups, the gates in none of the selected groups restore every state
abbrev pub SelectionsRule : KindMeaning → TemplateMeaning → Type 0
SelectionsRule k t = (selection : ℕ → Bool) → Restores k (unselected selection t)

-- what every template on a shelf meets
pub record MeetsRules (k : KindMeaning) (t : TemplateMeaning) : Type 0 where
  pub lines : LinesRule t
  pub size : SizeRule t
  pub gates : GatesRule k t
  pub groups : GroupsRule t
  pub whole : WholeRule k t
  pub selections : SelectionsRule k t
