-- Toffoli gates: line a is the target, field b is not used.
use Rattle.std.specs.Prelude.{Bool, not, ◌&&◌, Some, ◌==◌, nat_lt, slice_index}
use Rattle.gates.specs.declared.gate.Gate.{Gate}
use Rattle.gates.specs.Lines.{State, width, inverted_if}
use Rattle.gates.specs.Controls.{reads, controls_hold, controls_form, renamed_set, with_member, gate, with_flipped_controls_lem, with_control_lem}
use Rattle.gates.specs.Kinds.{KindMeaning}

-- the target is a line that a state can have, all positive controls are 1 and all negative ones are 0
abbrev pub fires : Gate → State → Bool
fires g s = nat_lt g.a width && controls_hold g.positive g.negative s

-- the kind of Toffoli gates: a gate inverts its target exactly when it fires
abbrev pub toffoli : KindMeaning
toffoli = record {
  form = λ n g. controls_form n g.positive g.negative && (nat_lt g.a n && (g.b == 0 && not (reads g g.a)));
  sends = λ g s i. inverted_if (i == g.a && fires g s) (s i);
  inverse = λ g. g;
  free = λ g h. not (reads h g.a) && not (reads g h.a);
  renamed = λ t g. gate (slice_index t g.a) 0 (renamed_set t g.positive) (renamed_set t g.negative);
  flipped = λ f g. Some (with_flipped_controls_lem f g);
  controlled = with_control_lem;
  targets = λ g. with_member g.a 0;
}
