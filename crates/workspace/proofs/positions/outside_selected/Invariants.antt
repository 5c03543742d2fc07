use Rattle.workspace.proofs.Stepping.{Found}
use Rattle.workspace.proofs.positions.outside_selected.Given as goal

abbrev pub invariant-loop-place : goal.invariant-loop-place
invariant-loop-place l = Found l.groups l.selection l.place l.selected
