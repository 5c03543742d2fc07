-- Refusals of gates, and the numbers by which users know them.
use Rattle.std.specs.Prelude.{ℕ, Ok, Err, Result, if◌then◌else◌}
use Rattle.gates.specs.declared.gate.Gate.{Gate}
use Rattle.gates.specs.declared.gate.GateRefusal.{GateRefusal}
use Rattle.gates.specs.declared.gate.GateRefusal.TheVariants.{NotWellFormed}
use Rattle.gates.specs.Kinds.{KindMeaning}

-- 2: a gate is not well formed
abbrev pub gate_refusal_number : GateRefusal → ℕ
gate_refusal_number NotWellFormed = 2

-- checking a gate for so many lines: refused where it is not well formed
abbrev pub gate_outcome : KindMeaning → ℕ → Gate → Result (Unit {0}) GateRefusal
gate_outcome k lines g = if k.form lines g then Ok tt else Err NotWellFormed
