-- The condition that a workspace in memory is in.
use Rattle.stores.specs.Stores.{StoreMeaning}
use Rattle.workspace.specs.declared.holdings.Holdings.{Holdings}
use Rattle.workspace.specs.declared.workspace.Workspace.{Workspace}
use Rattle.workspace.specs.Conditions.{Condition, condition}
use Rattle.workspace.specs.Shelves.{entries_of}

-- the store, by what it means, and the entries of the shelf
abbrev pub condition_of : {S : Type 0} → (S → StoreMeaning) → Holdings S → Condition
condition_of means h = condition (means h.store) (entries_of h.shelf)

-- the condition of what a workspace holds
abbrev pub condition_in : {S P : Type 0} → (S → StoreMeaning) → Workspace S P → Condition
condition_in means w = condition_of means w.holdings
