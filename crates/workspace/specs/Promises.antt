-- What the calls that change a workspace promise, in one relation.
use Rattle.std.specs.Prelude.{◌≡◌, ℕ, List, [], is_ok, Ok, Err, Option, Result, nat_le}
use Rattle.gates.specs.declared.gate.Gate.{Gate}
use Rattle.gates.specs.Kinds.{KindMeaning}
use Rattle.stores.specs.declared.refusal.StoreRefusal.{StoreRefusal}
use Rattle.stores.specs.Stores.{StoreMeaning}
use Rattle.search.specs.Keys.{ShownIn}
use Rattle.search.specs.Policy.{PolicyMeaning, scan, opening}
use Rattle.workspace.specs.declared.refusal.TemplateRefusal.{TemplateRefusal}
use Rattle.workspace.specs.declared.replacement.Replacement.{Replacement}
use Rattle.workspace.specs.declared.replacement.Settling.{Settling}
use Rattle.workspace.specs.declared.replacement.SettleRefusal.{SettleRefusal}
use Rattle.workspace.specs.declared.workspace.Workspace.{Workspace}
use Rattle.workspace.specs.Templates.{TemplateMeaning}
use Rattle.workspace.specs.Conditions.{Condition, Sound, Outcome, answer, after, append_outcome, shelve_outcome, withdraw_outcome}
use Rattle.workspace.specs.Holdings.{condition_in}
use Rattle.workspace.specs.Matching.{OccursIn, shown_of}
use Rattle.workspace.specs.Sweeps.{Swept, Shortened, SavesSome, SettleOutcome, reported_saved, most_budget, settled_saved}

-- a call with what it answered
pub data Event : Type 0 where
  append : Gate → Result (Unit {0}) StoreRefusal → Event
  shelve : TemplateMeaning → Result (Unit {0}) TemplateRefusal → Event
  withdraw : ℕ → Result (Unit {0}) TemplateRefusal → Event
  sweep : Option Replacement → Event
  settle : ℕ → Result Settling SettleRefusal → Event

-- the answer and the condition after a call are those of its outcome, and a sound workspace stays sound
pub record Performed {X E : Type 0} (k : KindMeaning) (before : Condition) (outcome : Outcome X E) (given : Result X E) (now : Condition) : Type 0 where
  pub answers : given ≡ answer outcome
  pub leaves : now ≡ after before outcome
  pub sound : Sound k before → Sound k now

-- a sweep of a sound workspace: what is replaced, and that the cascade does what it did with as many gates fewer as the answer says
pub record SweepPromise (k : KindMeaning) (rule : PolicyMeaning) (before : Condition) (given : Option Replacement) (now : Condition) : Type 0 where
  pub swept : Swept k rule before given now
  pub shortened : Shortened k before now (reported_saved given)
  pub saves : SavesSome given

-- settling a sound workspace: the sweeps that lead there, and that the cascade does what it did with as many gates fewer as the answer says
pub record SettlePromise (k : KindMeaning) (rule : PolicyMeaning) (before : Condition) (budget : ℕ) (given : Result Settling SettleRefusal) (now : Condition) : Type 0 where
  pub outcome : SettleOutcome k rule before budget given now
  pub shortened : Shortened k before now (settled_saved given)

-- what each call promises from the condition before it to the one after it
abbrev pub Promised : KindMeaning → PolicyMeaning → Condition → Event → Condition → Type 0
Promised k rule before (append g given) now = Performed k before (append_outcome k before g) given now
Promised k rule before (shelve t given) now = Performed k before (shelve_outcome k before t) given now
Promised k rule before (withdraw i given) now = Performed k before (withdraw_outcome before i) given now
Promised k rule before (sweep given) now = Sound k before → SweepPromise k rule before given now
Promised k rule before (settle budget given) now = (is_ok given ≡ nat_le budget most_budget) × (Sound k before → SettlePromise k rule before budget given now)

-- what the policy keeps after it was shown what occurs in the condition, in rank order
abbrev pub KeptAfter : KindMeaning → PolicyMeaning → Condition → List ℕ → Type 0
KeptAfter k rule c kept = (os : List (List ℕ)) → ShownIn (OccursIn k c) [] os → kept ≡ (scan rule (shown_of c.shelf) (opening rule) os).kept

-- what the policy keeps after settling: what the last search left, which was of the condition now; a refusal leaves it
abbrev pub KeptSettling : KindMeaning → PolicyMeaning → Result Settling SettleRefusal → Condition → List ℕ → List ℕ → Type 0
KeptSettling k rule (Ok answer) now was kept = KeptAfter k rule now kept
KeptSettling k rule (Err refusal) now was kept = kept ≡ was

-- what a call promises from the workspace before it to the one after it
abbrev pub Keeps : {S P : Type 0} → (S → StoreMeaning) → KindMeaning → PolicyMeaning → Workspace S P → Event → Workspace S P → Type 0
Keeps means k rule old event new = Promised k rule (condition_in means old) event (condition_in means new)
