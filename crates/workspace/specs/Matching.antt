-- What the search for occurrences looks at: the keys that occur in a condition, what a policy is shown of one, the frame of gates from a place on,
-- and a template posed on its own lines.
use Rattle.std.specs.Prelude.{ℕ, ◌-◌, ◌*◌, Bool, List, map, take, drop, Decides, slice_index, slice_index_or}
use Rattle.gates.specs.declared.gate.Gate.{Gate}
use Rattle.gates.specs.Kinds.{KindMeaning}
use Rattle.gates.specs.Cascades.{rotated, flipped_or}
use Rattle.search.specs.declared.policy.Shown.{Shown}
use Rattle.search.specs.Keys.{key_size, number_limit}
use Rattle.search.specs.Listing.{FitsKey}
use Rattle.workspace.specs.Templates.{TemplateMeaning, size}
use Rattle.workspace.specs.Turns.{Placed, on_gate, placed, directed}
use Rattle.workspace.specs.Conditions.{Condition, EntryMeaning, Sound, no_entry}
use Rattle.workspace.specs.Occurrences.{Occurs}
use Rattle.workspace.specs.OccurrenceTests.{occurs_test}

-- the keys that occur in a condition
abbrev pub OccursIn : KindMeaning → Condition → List ℕ → Type 0
OccursIn k c = Occurs k c.store.lines c.store.gates c.shelf

-- the test of a key in a condition
abbrev pub occurs_in_test : KindMeaning → Condition → List ℕ → Bool
occurs_in_test k c = occurs_test k c.store.lines c.store.gates c.shelf

-- what a search of a condition rests on: it is sound, a key has room for what passes the test, and the test decides
pub record Searchable (k : KindMeaning) (c : Condition) : Type 0 where
  pub sound : Sound k c
  pub fits : FitsKey (occurs_in_test k c) key_size number_limit
  pub decides : (key : List ℕ) → Decides (occurs_in_test k c key) (OccursIn k c key)

-- what a policy is shown of a key: what is saved, 2 k - m, the first place and the template's number; the key's third number is 8 - k
abbrev pub shown_of : List EntryMeaning → List ℕ → Shown
shown_of shelf key = record { saved = 2 * (8 - slice_index key 2) - size (slice_index_or shelf (slice_index key 1) no_entry).template; place = slice_index key 0; template = slice_index key 1 }

-- how many gates an occurrence can reach over, from its first place on
abbrev pub reach : ℕ
reach = 32

-- the gates from a place on, as many as an occurrence can reach over
abbrev pub frame_at : List Gate → ℕ → List Gate
frame_at gates first = take reach (drop first gates)

-- the gates of a template directed, rotated and flipped, still on its own lines, each with its position
abbrev pub posed : KindMeaning → TemplateMeaning → Bool → ℕ → ℕ → List Placed
posed k e back rotation flips = map (on_gate (flipped_or k flips)) (rotated rotation (directed k back (placed e.gates)))
