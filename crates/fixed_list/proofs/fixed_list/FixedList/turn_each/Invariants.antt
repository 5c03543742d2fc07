use Rattle.std.proofs.Common.{◌≡◌, ◌≤◌, ℕ, get_or, length, take}
use Rattle.std.specs.List.{AllZip}
use Rattle.fixed_list.proofs.fixed_list.FixedList.turn_each.Given as goal

-- the items before the place are turned, the others are as they were
abbrev pub invariant-loop-place : goal.invariant-loop-place
invariant-loop-place g l = record {
  many : l.self.count ≡ l.initial.self.count;
  long : length l.self.items ≡ length l.initial.self.items;
  turned : AllZip (goal.F-post g l.turn) (take l.place l.initial.self.items) (take l.place l.self.items);
  left : (j : ℕ) (d : g.row.T.Denot) → l.place ≤ j → get_or l.self.items j d ≡ get_or l.initial.self.items j d;
}
