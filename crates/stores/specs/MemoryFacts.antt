-- Stores in lent memory are bounded as every store is.
use Rattle.std.specs.Prelude.{ℕ, ◌+◌, ◌-◌, ◌≤◌, List, length, take, drop}
use Rattle.std.proofs.Common.{arith}
use Rattle.std.proofs.lemmas.List.{length-take, length-drop, length-append}
use Rattle.gates.specs.declared.gate.Gate.{Gate}
use Rattle.gates.specs.Lines.{width}
use Rattle.stores.specs.Stores.{Bounded, most}
use Rattle.stores.specs.Memory.{plain, gap}

-- a plain store with its count within the records
pub plain_bounded : (lines : ℕ) (records : List Gate) (count : ℕ) → 1 ≤ lines → lines ≤ width → count ≤ length records → count ≤ most → Bounded (plain lines records count)
plain_bounded lines records count one few within small =
    record { some_line = one; few_lines = few; fits = omega (arith, length-take count records); small = omega arith }

-- a gap store whose two parts are within the records
pub gap_bounded : (lines : ℕ) (records : List Gate) (front back : ℕ) → 1 ≤ lines → lines ≤ width → front + back ≤ length records → front + back ≤ most → Bounded (gap lines records front back)
gap_bounded lines records front back one few within small =
    record {
      some_line = one;
      few_lines = few;
      fits = omega (arith, length-append (take front records) (drop (length records - back) records), length-take front records, length-drop (length records - back) records);
      small = omega arith;
    }
