use Rattle.std.proofs.Common.{refl}
use lib.Count.{ones}
use Rattle.gates.specs.Lines.{bit, where_below, every_below}
use Rattle.gates.specs.Controls.{apart, controls_form, controls_hold}
use Rattle.gates.proofs.Rows.{rows_right}
use Rattle.workspace.proofs.examples.worked_examples.Goals as goal

pub returns : goal.returns
unfolding bit where_below every_below controls_hold controls_form apart ones
returns c = record {
  gates = rows_right;
  templates = (refl, (refl, (refl, (refl, (refl, (refl, (refl, (refl, tt))))))));
}
