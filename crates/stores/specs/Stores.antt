-- What a store means, what its calls answer and what they leave.
use Rattle.std.specs.Prelude.{ℕ, ◌≤◌, Bool, cond, List, length, Ok, Err, Result, nat_le, nat_lt, slice_index_or, slice_set}
use Rattle.std.specs.List.{AllByRecursion, insert, remove}
use Rattle.gates.specs.declared.gate.Gate.{Gate}
use Rattle.gates.specs.declared.gate.GateRefusal.TheVariants.{NotWellFormed}
use Rattle.gates.specs.Refusals.{gate_refusal_number}
use Rattle.gates.specs.Lines.{width}
use Rattle.gates.specs.Controls.{gate}
use Rattle.gates.specs.Kinds.{KindMeaning, Formed}
use Rattle.stores.specs.declared.refusal.StoreRefusal.{StoreRefusal}
use Rattle.stores.specs.declared.refusal.StoreRefusal.TheVariants.{Lines, Gate as RefusedGate, Full, NoSuchPlace}

-- the most gates that a store can hold
abbrev pub most : ℕ
most = 4096

-- a store, by its line count, the most gates it can hold, its gates in order, and the gates before and behind each window in it
pub record StoreMeaning : Type 0 where
  pub lines : ℕ
  pub capacity : ℕ
  pub gates : List Gate
  pub outside : List (List Gate × List Gate)

-- the store with another list of gates
abbrev pub with_gates : StoreMeaning → List Gate → StoreMeaning
with_gates m gates = record { lines = m.lines; capacity = m.capacity; gates = gates; outside = m.outside }

-- what holds of every store: 1 to 32 lines, no more gates than the capacity, and a capacity of at most 4,096
pub record Bounded (m : StoreMeaning) : Type 0 where
  pub some_line : 1 ≤ m.lines
  pub few_lines : m.lines ≤ width
  pub fits : length m.gates ≤ m.capacity
  pub small : m.capacity ≤ most

-- every gate of the store is well formed for its lines
abbrev pub Sound : KindMeaning → StoreMeaning → Type 0
Sound k m = AllByRecursion (Formed k m.lines) m.gates

-- the numbers of refusals: 1 lines, 2 a gate that is not well formed, 3 at capacity, 9 no such place
abbrev pub store_refusal_number : StoreRefusal → ℕ
store_refusal_number Lines = 1
store_refusal_number (RefusedGate r) = gate_refusal_number r
store_refusal_number Full = 3
store_refusal_number NoSuchPlace = 9

-- what a call that changes a store comes to: an answer with the store after it, or a refusal
abbrev pub Outcome : Type 0 → Type 0
Outcome X = Result (X × StoreMeaning) StoreRefusal

-- the answer of a call
abbrev pub answer : {X : Type 0} → Outcome X → Result X StoreRefusal
answer (Ok r) = Ok r.0
answer (Err e) = Err e

-- the store after a call; a refusal changes nothing
abbrev pub after : {X : Type 0} → StoreMeaning → Outcome X → StoreMeaning
after m (Ok r) = r.1
after m (Err e) = m

-- the value, or the refusal where the test fails
abbrev pub provided : {X : Type 0} → Bool → StoreRefusal → Result X StoreRefusal → Result X StoreRefusal
provided b e r = cond b r (Err e)

-- asking for a place at which a gate stands: 9 where there is none
abbrev pub place_outcome : ℕ → ℕ → Result (Unit {0}) StoreRefusal
place_outcome place count = provided (nat_lt place count) NoSuchPlace (Ok tt)

-- asking for a place before which a gate can come in: 9 where there is none
abbrev pub place_before_outcome : ℕ → ℕ → Result (Unit {0}) StoreRefusal
place_before_outcome place count = provided (nat_le place count) NoSuchPlace (Ok tt)

-- asking for room for one gate more: 3 where there is none
abbrev pub room_outcome : ℕ → ℕ → Result (Unit {0}) StoreRefusal
room_outcome count capacity = provided (nat_lt count capacity) Full (Ok tt)

-- the gate at a place; past the end some gate, which no answer shows
abbrev pub at : StoreMeaning → ℕ → Gate
at m place = slice_index_or m.gates place (gate 0 0 0 0)

-- read: 9 where there is no such place
abbrev pub read_outcome : StoreMeaning → ℕ → Result Gate StoreRefusal
read_outcome m place = provided (nat_lt place (length m.gates)) NoSuchPlace (Ok (at m place))

-- overwrite: 9, then 2
abbrev pub overwrite_outcome : KindMeaning → StoreMeaning → ℕ → Gate → Outcome (Unit {0})
overwrite_outcome k m place g =
    provided (nat_lt place (length m.gates)) NoSuchPlace
    (provided (k.form m.lines g) (RefusedGate NotWellFormed)
    (Ok (tt, with_gates m (slice_set m.gates place g))))

-- insert before a place, or at the end where the place is the count: 9, then 2, then 3
abbrev pub insert_outcome : KindMeaning → StoreMeaning → ℕ → Gate → Outcome (Unit {0})
insert_outcome k m place g =
    provided (nat_le place (length m.gates)) NoSuchPlace
    (provided (k.form m.lines g) (RefusedGate NotWellFormed)
    (provided (nat_lt (length m.gates) m.capacity) Full
    (Ok (tt, with_gates m (insert m.gates place g)))))

-- remove, which answers the gate that it takes out: 9
abbrev pub remove_outcome : StoreMeaning → ℕ → Outcome Gate
remove_outcome m place =
    provided (nat_lt place (length m.gates)) NoSuchPlace (Ok (at m place, with_gates m (remove m.gates place)))

-- making a store: 1 where the line count is not 1 to 32
abbrev pub lines_outcome : ℕ → Result (Unit {0}) StoreRefusal
lines_outcome lines = provided (nat_le 1 lines) Lines (provided (nat_le lines width) Lines (Ok tt))
