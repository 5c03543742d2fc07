use Rattle.std.proofs.Common.{take}
use Rattle.std.specs.List.{AllZip}
use Rattle.fixed_list.specs.Lists.{contents}
use Rattle.fixed_list.proofs.fixed_list.FixedList.map.Given as goal

-- the items so far are turned
abbrev pub invariant-loop-item : goal.invariant-loop-item
invariant-loop-item g l = AllZip (goal.F-post g l.turn) (take l.item-index l.item-items) (contents l.turned)
