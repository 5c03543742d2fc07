-- The condition of a workspace: its store and its shelf; what each call answers and what it leaves.
use Rattle.std.specs.Prelude.{ℕ, ◌+◌, min, Bool, cond, List, [], ◌∷◌, ◌++◌, length, Some, None, Ok, Err, Option, Result, nat_lt, slice_index_or}
use Rattle.std.specs.List.{AllByRecursion}
use Rattle.std.specs.List.{remove}
use Rattle.gates.specs.declared.gate.Gate.{Gate}
use Rattle.gates.specs.declared.gate.GateRefusal.TheVariants.{NotWellFormed}
use Rattle.gates.specs.Kinds.{KindMeaning}
use Rattle.stores.specs.declared.refusal.StoreRefusal.{StoreRefusal}
use Rattle.stores.specs.declared.refusal.StoreRefusal.TheVariants.{Gate as RefusedGate, Full}
use Rattle.stores.specs.Stores.{StoreMeaning, with_gates}
use Rattle.stores.specs.Stores as stores
use Rattle.workspace.specs.declared.refusal.TemplateRefusal.{TemplateRefusal}
use Rattle.workspace.specs.declared.refusal.TemplateRefusal.TheVariants.{ShelfFull, NoSuchEntry}
use Rattle.workspace.specs.Templates.{TemplateMeaning, MeetsRules}
use Rattle.workspace.specs.TemplateTests.{template_test}

-- the most entries that a shelf has
abbrev pub most_entries : ℕ
most_entries = 64

-- an entry's counter stays at this
abbrev pub most_counted : ℕ
most_counted = 65535

-- an entry of the shelf: a template, and how many replacements were made by it since it was shelved
pub record EntryMeaning : Type 0 where
  pub template : TemplateMeaning
  pub replacements : ℕ

-- the entry of this template and this count
abbrev pub entry : TemplateMeaning → ℕ → EntryMeaning
entry t n = record { template = t; replacements = n }

-- the entry after one more replacement; a full counter stays
abbrev pub counted_once : EntryMeaning → EntryMeaning
counted_once e = entry e.template (min (e.replacements + 1) most_counted)

-- a workspace: the store that it works on, and the shelf, whose entries are numbered from 0
pub record Condition : Type 0 where
  pub store : StoreMeaning
  pub shelf : List EntryMeaning

-- the condition of this store and this shelf
abbrev pub condition : StoreMeaning → List EntryMeaning → Condition
condition m entries = record { store = m; shelf = entries }

-- a workspace that was just put on a store: the shelf is bare
abbrev pub opened : StoreMeaning → Condition
opened m = condition m []

-- the gates are well formed, and the shelved templates meet the rules
pub record Sound (k : KindMeaning) (c : Condition) : Type 0 where
  pub gates : stores.Sound k c.store
  pub templates : AllByRecursion (λ e. MeetsRules k e.template) c.shelf

-- what a call comes to: an answer with the condition after it, or a refusal
abbrev pub Outcome : Type 0 → Type 0 → Type 0
Outcome X E = Result (X × Condition) E

-- the answer of a call
abbrev pub answer : {X E : Type 0} → Outcome X E → Result X E
answer (Ok r) = Ok r.0
answer (Err e) = Err e

-- the condition after a call; a refusal changes nothing
abbrev pub after : {X E : Type 0} → Condition → Outcome X E → Condition
after c (Ok r) = r.1
after c (Err e) = c

-- the outcome, or the refusal where the test fails
abbrev pub provided : {X E : Type 0} → Bool → E → Result X E → Result X E
provided b e r = cond b r (Err e)

-- append puts a gate at the end of the list: 2 where it is not well formed, then 3 where the list is at capacity
abbrev pub append_outcome : KindMeaning → Condition → Gate → Outcome (Unit {0}) StoreRefusal
append_outcome k c g =
    provided (k.form c.store.lines g) (RefusedGate NotWellFormed)
    (provided (nat_lt (length c.store.gates) c.store.capacity) Full
    (Ok (tt, condition (with_gates c.store (c.store.gates ++ g ∷ [])) c.shelf)))

-- shelving a template that the rules do not refuse: 4 where the shelf is full, else it comes last, its count 0
abbrev pub shelved : Condition → TemplateMeaning → Option TemplateRefusal → Outcome (Unit {0}) TemplateRefusal
shelved c t (Some refusal) = Err refusal
shelved c t None = provided (nat_lt (length c.shelf) most_entries) ShelfFull (Ok (tt, condition c.store (c.shelf ++ entry t 0 ∷ [])))

-- shelve: the refusal of the first rule that the template breaks, then 4
abbrev pub shelve_outcome : KindMeaning → Condition → TemplateMeaning → Outcome (Unit {0}) TemplateRefusal
shelve_outcome k c t = shelved c t (template_test k t)

-- withdraw takes an entry out and closes the shelf up: 9 where there is no such entry
abbrev pub withdraw_outcome : Condition → ℕ → Outcome (Unit {0}) TemplateRefusal
withdraw_outcome c number = provided (nat_lt number (length c.shelf)) NoSuchEntry (Ok (tt, condition c.store (remove c.shelf number)))

-- past the end of the shelf some entry, which no answer shows
abbrev pub no_entry : EntryMeaning
no_entry = entry record { lines = 0; gates = []; groups = [] } 0

-- an entry's count: 9 where there is no such entry
abbrev pub replacements_outcome : Condition → ℕ → Result ℕ TemplateRefusal
replacements_outcome c number = provided (nat_lt number (length c.shelf)) NoSuchEntry (Ok (slice_index_or c.shelf number no_entry).replacements)
