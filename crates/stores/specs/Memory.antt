-- Stores in memory that the caller lends: what the records mean.
use Rattle.std.specs.Prelude.{◌≡◌, ℕ, ◌+◌, ◌-◌, min, max, cond, ◌&&◌, List, [], ◌++◌, length, take, drop, Ok, Err, Result, nat_le, nat_lt}
use Rattle.gates.specs.declared.gate.Gate.{Gate}
use Rattle.gates.specs.Lines.{width}
use Rattle.stores.specs.Stores.{StoreMeaning, most}

-- a store of these gates in memory of so many records: it can hold as many gates as there are records, 4,096 at the most, and no window is in it
abbrev pub in_memory : ℕ → ℕ → List Gate → StoreMeaning
in_memory lines records gates = record { lines = lines; capacity = min records most; gates = gates; outside = [] }

-- the plain store: its gates in order at the front of the records
abbrev pub plain : ℕ → List Gate → ℕ → StoreMeaning
plain lines records count = in_memory lines (length records) (take count records)

-- the gates of a gap store: the first ones at the front of the records, the others at their back
abbrev pub around_gap : List Gate → ℕ → ℕ → List Gate
around_gap records front back = take front records ++ drop (length records - back) records

-- the record that holds the gate at a place, of n records
abbrev pub record_of : ℕ → ℕ → ℕ → ℕ → ℕ
record_of n front back place = cond (nat_lt place front) place (place + (n - (front + back)))

-- the gap store: free records stand between the first gates and the others
abbrev pub gap : ℕ → List Gate → ℕ → ℕ → StoreMeaning
gap lines records front back = in_memory lines (length records) (around_gap records front back)

-- the same gap store with its gap elsewhere: lines, records, gates before the gap and gates behind it, before and after
pub record GapMoved (lines : ℕ) (records : List Gate) (front back : ℕ) (lines' : ℕ) (records' : List Gate) (front' back' : ℕ) : Type 0 where
  pub same : gap lines' records' front' back' ≡ gap lines records front back
  pub sum : front' + back' ≡ front + back
  pub long : length records' ≡ length records
  pub on : lines' ≡ lines

-- how many gates lie between two places
abbrev pub apart : ℕ → ℕ → ℕ
apart p q = max p q - min p q

-- how many records the last edit moved: those of this one, or where it is refused, those of the one before
abbrev pub moved_by : {X E : Type 0} → Result X E → ℕ → ℕ → ℕ
moved_by (Ok x) these earlier = these
moved_by (Err e) these earlier = earlier

-- the line count of a store that is made: the one asked for, or 1 where that is not 1 to 32
abbrev pub made_lines : ℕ → ℕ
made_lines lines = cond (nat_le 1 lines && nat_le lines width) lines 1
