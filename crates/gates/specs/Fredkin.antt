-- Fredkin gates: lines a < b are exchanged.
use Rattle.std.specs.Prelude.{ℕ, min, max, Bool, cond, not, ◌&&◌, ◌||◌, Some, None, ◌==◌, nat_lt, slice_index}
use Rattle.std.specs.Bool.{beq}
use Rattle.gates.specs.declared.gate.Gate.{Gate}
use Rattle.gates.specs.Lines.{State, width, bit}
use Rattle.gates.specs.Controls.{reads, controls_hold, controls_form, renamed_set, with_member, gate, with_flipped_controls_lem, with_control_lem}
use Rattle.gates.specs.Kinds.{KindMeaning}

-- b for a, a for b, and any other line for itself
abbrev pub other : ℕ → ℕ → ℕ → ℕ
other a b i = cond (i == a) b (cond (i == b) a i)

-- the state with the values of lines a and b exchanged
abbrev pub swapped : ℕ → ℕ → State → State
swapped a b s i = s (other a b i)

-- both lines are lines that a state can have, all positive controls are 1 and all negative ones are 0
abbrev pub fires : Gate → State → Bool
fires g s = (nat_lt g.a width && nat_lt g.b width) && controls_hold g.positive g.negative s

-- no exchanged line of g is a control of h
abbrev pub clear_of : Gate → Gate → Bool
clear_of g h = not (reads h g.a) && not (reads h g.b)

-- the two exchange the same pair of lines
abbrev pub same_pair : Gate → Gate → Bool
same_pair g h = g.a == h.a && g.b == h.b

-- the two exchange no line in common
abbrev pub disjoint_pairs : Gate → Gate → Bool
disjoint_pairs g h = (not (g.a == h.a) && not (g.a == h.b)) && (not (g.b == h.a) && not (g.b == h.b))

-- the kind of Fredkin gates: a gate exchanges its two lines exactly when it fires
abbrev pub fredkin : KindMeaning
fredkin = record {
  form = λ n g. controls_form n g.positive g.negative && (nat_lt g.a g.b && (nat_lt g.b n && clear_of g g));
  sends = λ g s i. cond (fires g s) (swapped g.a g.b s i) (s i);
  inverse = λ g. g;
  free = λ g h. (clear_of g h && clear_of h g) && (same_pair g h || disjoint_pairs g h);
  renamed = λ t g. gate (min (slice_index t g.a) (slice_index t g.b)) (max (slice_index t g.a) (slice_index t g.b)) (renamed_set t g.positive) (renamed_set t g.negative);
  flipped = λ f g. cond (beq (bit f g.a) (bit f g.b)) (Some (with_flipped_controls_lem f g)) None;
  controlled = with_control_lem;
  targets = λ g. with_member g.a (with_member g.b 0);
}
