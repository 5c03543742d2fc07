use Rattle.std.proofs.Common.{ℕ, get_or, rules}
use Rattle.fixed_list.specs.Lists.{contents}
use Rattle.workspace.proofs.Poses.{no_gate}
use Rattle.workspace.proofs.Lists.{turned}
use Rattle.workspace.proofs.framing.gates_at.Goals as goal

pub returns : goal.returns
returns c = turned _ (λ (d : ℕ). get_or c.args.frame.now d no_gate) (λ x y r. search rules) (contents c.args.distances.now) (contents c.map.result) c.map.ensures
