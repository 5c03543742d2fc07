-- Occurrences that keys name, and how they are held in memory.
use Rattle.std.specs.Prelude.{ℕ, ◌+◌, Bool, ◌&&◌, List, map, length, take, drop, Some, None, Option, ◌==◌, nat_le, nat_lt, slice_index}
use Rattle.fixed_list.specs.Lists.{contents}
use Rattle.workspace.specs.declared.named.Named.{Named}
use Rattle.workspace.specs.TemplateTests.{all_pass}
use Rattle.workspace.specs.Occurrences.{Occurrence}

-- the occurrence that a value holds
abbrev pub occurrence_of : Named → Occurrence
occurrence_of m = record {
  first = m.first;
  number = m.number;
  turn = record { back = m.pose.back; rotation = m.pose.rotation; flips = m.pose.flips; table = contents m.table };
  later = map (λ d. m.first + d) (contents m.later);
}

-- the occurrence that a value may hold
abbrev pub named_of : Option Named → Option Occurrence
named_of None = None
named_of (Some m) = Some (occurrence_of m)

-- the occurrence that a key of at least six numbers names, where the template has so many lines
abbrev pub spelled : ℕ → List ℕ → Occurrence
spelled lines key = record {
  first = slice_index key 0;
  number = slice_index key 1;
  turn = record { back = (slice_index key 3 == 1); rotation = slice_index key 4; flips = slice_index key 5; table = take lines (drop 6 key) };
  later = map (λ d. slice_index key 0 + d) (drop lines (drop 6 key));
}

-- the key can be that of an occurrence of a template with so many lines: all lines are mapped, the third number is 8 less the number of places,
-- the direction is 0 or 1, and the lines of the map are small
abbrev pub readable : ℕ → List ℕ → Bool
readable lines key =
    nat_le lines 4
    && (nat_le (6 + lines) (length key)
    && (slice_index key 2 + length key == 13 + lines
    && (nat_le (slice_index key 3) 1
    && all_pass (λ x. nat_lt x 256) (take lines (drop 6 key)))))
