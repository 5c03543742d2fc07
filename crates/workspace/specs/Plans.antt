-- Plans of replacements, as they are held in memory.
use Rattle.std.specs.Prelude.{◌≡◌, ℕ, List, Some, None, Option}
use Rattle.fixed_list.specs.Lists.{contents}
use Rattle.gates.specs.Kinds.{KindMeaning}
use Rattle.workspace.specs.declared.plan.Plan.{Plan}
use Rattle.workspace.specs.Turns.{turned_template}
use Rattle.workspace.specs.Conditions.{Condition}
use Rattle.workspace.specs.Occurrences.{OccursAs, key_of, template_on}
use Rattle.workspace.specs.Naming.{occurrence_of}
use Rattle.workspace.specs.Posing.{placed_of}

-- the plan is of the occurrence of this key: its template is turned, with the controls that the occurrence adds
pub record Planned (k : KindMeaning) (c : Condition) (key : List ℕ) (plan : Plan) : Type 0 where
  pub named : key ≡ key_of (occurrence_of plan.named)
  pub rules : OccursAs k c.store.lines c.store.gates c.shelf (occurrence_of plan.named)
  pub extended : placed_of (contents plan.extended)
      ≡ turned_template k (template_on c.shelf (occurrence_of plan.named)) (occurrence_of plan.named).turn rules.adds

-- there is a plan, and it is of the occurrence of this key
abbrev pub Plans : KindMeaning → Condition → List ℕ → Option Plan → Type 0
Plans k c key None = ⊥
Plans k c key (Some plan) = Planned k c key plan
