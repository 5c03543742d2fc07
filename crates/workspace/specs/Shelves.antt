-- The shelf that a value in memory holds.
use Rattle.std.specs.Prelude.{◌≡◌, ℕ, ◌<◌, ◌≤◌, List, length, map, Some, None, Option, slice_index_or, slice_set}
use denote.Ref.{Bor}
use Rattle.fixed_list.specs.Lists.{contents}
use Rattle.workspace.specs.declared.entry.Entry.{Entry}
use Rattle.workspace.specs.declared.shelf.Shelf.{Shelf}
use Rattle.workspace.specs.declared.template.Template.{Template}
use Rattle.workspace.specs.Proposals.{template_of}
use Rattle.workspace.specs.Conditions.{EntryMeaning, entry, counted_once, no_entry}

-- the entry that a value holds
abbrev pub entry_of : Entry → EntryMeaning
entry_of e = entry (template_of e.template) e.replacements

-- the entries of the shelf, in order
abbrev pub entries_of : Shelf → List EntryMeaning
entries_of s = map entry_of (contents s.entries)

-- the template, if there is one, is that of the entry of this number
abbrev pub IsNumbered : List EntryMeaning → ℕ → Option (Bor Template) → Type 0
IsNumbered shelf number None = length shelf ≤ number
IsNumbered shelf number (Some template) = (number < length shelf) × (template_of template.now ≡ (slice_index_or shelf number no_entry).template)

-- the entries after one more replacement by the entry of that number
abbrev pub counted_at : List EntryMeaning → ℕ → List EntryMeaning
counted_at entries number = slice_set entries number (counted_once (slice_index_or entries number no_entry))
