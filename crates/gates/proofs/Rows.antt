-- The worked examples, by computing.
use Rattle.std.proofs.Common.{refl}
use Rattle.gates.specs.Lines.{bit, every_below, where_below}
use Rattle.gates.specs.Controls.{controls_hold, controls_form, apart}
use Rattle.gates.specs.Examples.{ExamplesHold}

pub rows_right : ExamplesHold
unfolding bit every_below where_below controls_hold controls_form apart
rows_right = (refl, (refl, (refl, (refl, (refl, (refl, (refl, (refl, (refl, (refl, (refl, (refl, (refl, (refl, (refl, (refl, tt))))))))))))))))
