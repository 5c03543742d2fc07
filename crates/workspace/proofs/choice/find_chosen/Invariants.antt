use Rattle.workspace.proofs.Choosing.{ChosenSoFar}
use Rattle.workspace.proofs.choice.find_chosen.Given as goal

abbrev pub invariant-loop-distance : goal.invariant-loop-distance
invariant-loop-distance l = ChosenSoFar l.distances l.distance-index l.chosen
