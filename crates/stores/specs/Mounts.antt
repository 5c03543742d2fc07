-- Mounts: stores made of another store. A call on a mount changes the store below so that the mount's own list is as promised.
use Rattle.std.specs.Prelude.{◌≡◌, ℕ, suc, ◌+◌, ◌-◌, ◌<◌, min, Bool, cond, not, ◌&&◌, List, [], ◌∷◌, map, length, take, drop, Ok, Result, ◌==◌, nat_le, nat_lt, slice_index}
use Rattle.gates.specs.declared.gate.Gate.{Gate}
use Rattle.gates.specs.Lines.{Table, width, bit, every_below, counted}
use Rattle.gates.specs.Controls.{with_member}
use Rattle.gates.specs.Kinds.{KindMeaning}
use Rattle.gates.specs.Cascades.{backward}
use Rattle.stores.specs.declared.refusal.StoreRefusal.{StoreRefusal}
use Rattle.stores.specs.declared.refusal.StoreRefusal.TheVariants.{Lines, NoSuchPlace}
use Rattle.stores.specs.Stores.{StoreMeaning, with_gates, provided}

-- reversed: the list last to first, each gate inverted
abbrev pub reversed : KindMeaning → StoreMeaning → StoreMeaning
reversed k m = with_gates m (backward k m.gates)

-- renamed: each gate through a line table
abbrev pub renamed_by : KindMeaning → List ℕ → StoreMeaning → StoreMeaning
renamed_by k table m = with_gates m (map (k.renamed table) m.gates)

-- a window of so many gates from a place on: it can hold what the store below can, less the gates before and behind it
abbrev pub windowed : ℕ → ℕ → StoreMeaning → StoreMeaning
windowed start size m = record {
  lines = m.lines;
  capacity = m.capacity - (length m.gates - size);
  gates = take size (drop start m.gates);
  outside = (take start m.gates, drop (start + size) m.gates) ∷ m.outside;
}

-- the place where a window begins, no further than the list reaches
abbrev pub start_in : StoreMeaning → ℕ → ℕ
start_in m start = min start (length m.gates)

-- how many gates it has, no more than stand there
abbrev pub size_in : StoreMeaning → ℕ → ℕ → ℕ
size_in m start size = min size (length m.gates - start_in m start)

-- the part of that window that lies within the list
abbrev pub window : ℕ → ℕ → StoreMeaning → StoreMeaning
window start size m = windowed (start_in m start) (size_in m start size) m

-- with the lines in the set, the lines of the table make up the n lines, each once
abbrev pub completes : ℕ → ℕ → List ℕ → Bool
completes n seen [] = every_below n (bit seen)
completes n seen (x ∷ table) = (nat_lt x n && not (bit seen x)) && completes n (with_member x seen) table

-- the table is a rearrangement of the n lines: as long as they are many, and each of them stands in it once
abbrev pub rearranges : ℕ → List ℕ → Bool
rearranges n table = nat_le n width && (length table == n && completes n 0 table)

-- the place at which a line stands in a table
abbrev pub place_of : List ℕ → ℕ → ℕ
place_of [] j = 0
place_of (x ∷ table) j = cond (x == j) 0 (suc (place_of table j))

-- the table that leads each of the n lines back to where it came from
abbrev pub inverse_of : ℕ → List ℕ → List ℕ
inverse_of n table = map (place_of table) (counted 0 n)

-- what a rearrangement and its inverse are: tables of the n lines, each of which undoes the other
pub record Rearranged (n : ℕ) (table back : List ℕ) : Type 0 where
  pub there : Table n n table
  pub back_again : Table n n back
  pub undone : (i : ℕ) → i < n → slice_index back (slice_index table i) ≡ i
  pub redone : (i : ℕ) → i < n → slice_index table (slice_index back i) ≡ i

-- a gate on the new lines of a table, for a store of as many lines as the table has; for another store the gate itself
abbrev pub shown_gate : KindMeaning → List ℕ → ℕ → Gate → Gate
shown_gate k table lines g = cond (length table == lines) (k.renamed table g) g

-- each gate of the store so shown
abbrev pub renamed_view : KindMeaning → List ℕ → StoreMeaning → StoreMeaning
renamed_view k table m = with_gates m (map (shown_gate k table m.lines) m.gates)

-- checking a line table for a store: 1 where it is no rearrangement of the store's lines
abbrev pub table_outcome : StoreMeaning → List ℕ → Result (Unit {0}) StoreRefusal
table_outcome m table = provided (rearranges m.lines table) Lines (Ok tt)

-- what a mount made with this table shows: the list through the table, or unaltered where the check refuses it
abbrev pub renamed_made : KindMeaning → List ℕ → StoreMeaning → StoreMeaning
renamed_made k table m = cond (rearranges m.lines table) (renamed_by k table m) m

-- checking a window from place a to place b - 1: 9 where a > b, or b is above the count
abbrev pub window_outcome : StoreMeaning → ℕ → ℕ → Result (Unit {0}) StoreRefusal
window_outcome m a b = provided (nat_le a b && nat_le b (length m.gates)) NoSuchPlace (Ok tt)

-- what a window made with these places shows: the places a to b - 1, or the whole list where the check refuses them
abbrev pub window_made : ℕ → ℕ → StoreMeaning → StoreMeaning
window_made a b m = cond (nat_le a b && nat_le b (length m.gates)) (windowed a (b - a) m) (windowed 0 (length m.gates) m)
