use Rattle.workspace.proofs.Choosing.{chosen_none, chosen_more}
use Rattle.workspace.proofs.choice.find_chosen.Goals as goal

pub loop-distance-init : goal.loop-distance-init
loop-distance-init c = chosen_none c.args.distances.now

pub loop-distance-preserved : goal.loop-distance-preserved
loop-distance-preserved c =
    chosen_more c.args.distances.now c.loop-distance.distance-index c.loop-distance.chosen c.min.result c.with_line-chosen.result c.loop-distance-test.true c.loop-distance.invariant c.min.ensures
    c.with_line-chosen.ensures
