use Rattle.gates.proofs.Rows.{rows_right}
use Rattle.gates.proofs.cascade.worked_examples.Goals as goal

pub returns : goal.returns
returns c = rows_right
