-- The gates of a posed template, and the members in memory that hold them.
use Rattle.std.specs.Prelude.{ℕ, ◌+◌, ◌-◌, Bool, cond, List, map, nat_lt}
use Rattle.gates.specs.declared.gate.Gate.{Gate}
use Rattle.gates.specs.Kinds.{KindMeaning}
use Rattle.workspace.specs.declared.posed.Member.{Member}
use Rattle.workspace.specs.Turns.{Placed, at_position}

-- a gate as it stands forward, or inverted backward
abbrev pub directed_gate : KindMeaning → Bool → Gate → Gate
directed_gate k back g = cond back (k.inverse g) g

-- the place, in the directed list of m gates, of the gate that comes to place j when the list is rotated by r
abbrev pub rotated_place : ℕ → ℕ → ℕ → ℕ
rotated_place m r j = cond (nat_lt j (m - r)) (r + j) (j - (m - r))

-- its position in the template
abbrev pub source_place : ℕ → Bool → ℕ → ℕ → ℕ
source_place m back r j = cond back (m - 1 - rotated_place m r j) (rotated_place m r j)

-- the gates with their positions that members in memory are
abbrev pub placed_of : List Member → List Placed
placed_of members = map (λ m. at_position m.position m.gate) members
