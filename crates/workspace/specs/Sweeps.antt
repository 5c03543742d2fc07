-- Sweeps and settling: which occurrence is replaced, what that leaves, and what a row of sweeps comes to.
use Rattle.std.specs.Prelude.{◌≡◌, ℕ, zero, suc, ◌+◌, ◌≤◌, List, [], map, length, Some, None, Ok, Err, Option, Result, slice_index_or, slice_set}
use Rattle.gates.specs.Lines.{State}
use Rattle.gates.specs.Kinds.{KindMeaning}
use Rattle.gates.specs.Cascades.{run}
use Rattle.stores.specs.Stores.{with_gates}
use Rattle.search.specs.Keys.{ShownIn}
use Rattle.search.specs.Policy.{PolicyMeaning, chosen}
use Rattle.workspace.specs.declared.replacement.Replacement.{Replacement}
use Rattle.workspace.specs.declared.replacement.Ending.{Ending}
use Rattle.workspace.specs.declared.replacement.Ending.TheVariants.{Settled, Spent}
use Rattle.workspace.specs.declared.replacement.Settling.{Settling}
use Rattle.workspace.specs.declared.replacement.SettleRefusal.{SettleRefusal}
use Rattle.workspace.specs.declared.replacement.SettleRefusal.TheVariants.{Budget}
use Rattle.workspace.specs.Templates.{TemplateMeaning}
use Rattle.workspace.specs.Turns.{Added}
use Rattle.workspace.specs.Conditions.{Condition, EntryMeaning, Sound, condition, counted_once, no_entry}
use Rattle.workspace.specs.Occurrences.{Occurrence, OccursAs, key_of, template_on, after_replacing, saved}
use Rattle.workspace.specs.Matching.{OccursIn, shown_of}

-- the condition after an occurrence was replaced: its gates, and one more replacement counted for its template
abbrev pub after_occurrence : KindMeaning → Condition → Occurrence → List Added → Condition
after_occurrence k c o adds =
    condition (with_gates c.store (after_replacing k c.store.gates (template_on c.shelf o) o adds))
    (slice_set c.shelf o.number (counted_once (slice_index_or c.shelf o.number no_entry)))

-- the occurrence of this key was replaced: the answer tells its template, its first place and what it saves
pub record Replaced (k : KindMeaning) (before : Condition) (key : List ℕ) (answer : Replacement) (after : Condition) : Type 0 where
  pub occurrence : Occurrence
  pub named : key ≡ key_of occurrence
  pub rules : OccursAs k before.store.lines before.store.gates before.shelf occurrence
  pub template : answer.template ≡ occurrence.number
  pub place : answer.place ≡ occurrence.first
  pub saves : answer.saved ≡ saved (template_on before.shelf occurrence) occurrence
  pub leaves : after ≡ after_occurrence k before occurrence rules.adds

-- nothing is replaced where nothing was singled out, and else what was
abbrev pub Done : KindMeaning → Condition → Option (List ℕ) → Option Replacement → Condition → Type 0
Done k before None None after = after ≡ before
Done k before None (Some answer) after = ⊥
Done k before (Some key) None after = ⊥
Done k before (Some key) (Some answer) after = Replaced k before key answer after

-- a sweep: of all that occurs, in rank order, what the policy, cleared, singles out is replaced; the answer is none exactly where nothing occurs
pub record Swept (k : KindMeaning) (rule : PolicyMeaning) (before : Condition) (answer : Option Replacement) (after : Condition) : Type 0 where
  pub os : List (List ℕ)
  pub shown : ShownIn (OccursIn k before) [] os
  pub done : Done k before (chosen rule (shown_of before.shelf) os) answer after
  pub none : answer ≡ None → os ≡ []
  pub nothing : os ≡ [] → answer ≡ None

-- the templates on a shelf, without their counts
abbrev pub templates_on : List EntryMeaning → List TemplateMeaning
templates_on shelf = map (λ e. e.template) shelf

-- so many gates fewer, and all else that matters is as it was: what the cascade does to every state, well-formedness, lines, capacity, the gates outside windows, the templates on the shelf
pub record Shortened (k : KindMeaning) (before after : Condition) (saves : ℕ) : Type 0 where
  pub function : (s : State) → run k after.store.gates s ≡ run k before.store.gates s
  pub sound : Sound k after
  pub sum : length before.store.gates ≡ length after.store.gates + saves
  pub lines : after.store.lines ≡ before.store.lines
  pub capacity : after.store.capacity ≡ before.store.capacity
  pub outside : after.store.outside ≡ before.store.outside
  pub templates : templates_on after.shelf ≡ templates_on before.shelf

-- the gates that an answer reports saved
abbrev pub reported_saved : Option Replacement → ℕ
reported_saved None = 0
reported_saved (Some answer) = answer.saved

-- a replacement saves at least one gate
abbrev pub SavesSome : Option Replacement → Type 0
SavesSome None = Unit {0}
SavesSome (Some answer) = 1 ≤ answer.saved

-- so many sweeps in a row, each of which replaces, with the gates that they save together
abbrev pub Sweeps : KindMeaning → PolicyMeaning → ℕ → ℕ → Condition → Condition → Type 0
Sweeps k rule zero saves before after = (saves ≡ 0) × (after ≡ before)
Sweeps k rule (suc r) saves before after =
    (answer : Replacement) × (between : Condition) × (rest : ℕ)
    × Swept k rule before (Some answer) between × (saves ≡ answer.saved + rest) × Sweeps k rule r rest between after

-- nothing occurs
abbrev pub NothingOccurs : KindMeaning → Condition → Type 0
NothingOccurs k c = (key : List ℕ) → OccursIn k c key → ⊥

-- settled exactly where nothing occurs in what is left; spent exactly where something does, and then the replacements are as many as the budget
abbrev pub Ends : KindMeaning → ℕ → ℕ → Ending → Condition → Type 0
Ends k budget made Settled after = NothingOccurs k after
Ends k budget made Spent after = ((key : List ℕ) × OccursIn k after key) × (made ≡ budget)

-- settling: as many sweeps as it reports lead from before to after, no more than the budget, and it ends as it says
pub record SettledBy (k : KindMeaning) (rule : PolicyMeaning) (before : Condition) (budget : ℕ) (answer : Settling) (after : Condition) : Type 0 where
  pub sweeps : Sweeps k rule answer.replacements answer.saved before after
  pub within : answer.replacements ≤ budget
  pub ends : Ends k budget answer.replacements answer.ending after

-- the greatest budget
abbrev pub most_budget : ℕ
most_budget = 4096

-- settle: 10 where the budget is above 4,096, and then nothing changes; else what settling comes to
abbrev pub SettleOutcome : KindMeaning → PolicyMeaning → Condition → ℕ → Result Settling SettleRefusal → Condition → Type 0
SettleOutcome k rule before budget (Ok answer) after = SettledBy k rule before budget answer after
SettleOutcome k rule before budget (Err refusal) after = after ≡ before

-- the gates that a settling reports saved
abbrev pub settled_saved : Result Settling SettleRefusal → ℕ
settled_saved (Ok answer) = answer.saved
settled_saved (Err refusal) = 0

-- the numbers of refusals: 10 the budget
abbrev pub settle_refusal_number : SettleRefusal → ℕ
settle_refusal_number Budget = 10
