use Rattle.stores.proofs.Rearranging.{Placed}
use Rattle.stores.proofs.rearrangement.Rearrangement.new.Given as goal

abbrev pub invariant-loop-place : goal.invariant-loop-place
invariant-loop-place l = Placed l.lines l.table l.place l.places
