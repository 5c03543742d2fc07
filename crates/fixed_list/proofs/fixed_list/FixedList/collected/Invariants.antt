use Rattle.std.proofs.Common.{◌≡◌, take}
use Rattle.fixed_list.specs.Lists.{contents}
use Rattle.fixed_list.proofs.fixed_list.FixedList.collected.Given as goal

-- the list has the first of the items so far
abbrev pub invariant-loop-item : goal.invariant-loop-item
invariant-loop-item g l = contents l.collected ≡ take g.row.N l.yielded
