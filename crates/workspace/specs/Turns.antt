-- Turns of a template onto the lines of a cascade, and controls that are added to it by groups.
use Rattle.std.specs.Prelude.{ℕ, zero, suc, ◌^◌, ◌<◌, Bool, true, false, cond, List, [], ◌∷◌, map, reverse, ◌≢◌}
use Rattle.std.specs.List.{AllByRecursion}
use Rattle.gates.specs.declared.gate.Gate.{Gate}
use Rattle.gates.specs.declared.gate.Sign.{Sign}
use Rattle.gates.specs.Lines.{bit, Table, Outside}
use Rattle.gates.specs.Kinds.{KindMeaning}
use Rattle.gates.specs.Cascades.{rotated, flipped_or, Flippable}
use Rattle.workspace.specs.Templates.{TemplateMeaning, size, outside_selected}

-- a gate with the position that it has in its template
pub record Placed : Type 0 where
  pub position : ℕ
  pub gate : Gate

-- the gate at the position
abbrev pub at_position : ℕ → Gate → Placed
at_position p g = record { position = p; gate = g }

-- another gate at the same position
abbrev pub on_gate : (Gate → Gate) → Placed → Placed
on_gate f x = at_position x.position (f x.gate)

-- the gates with their positions, the first of which is p
abbrev pub placed_from : ℕ → List Gate → List Placed
placed_from p [] = []
placed_from p (g ∷ gates) = at_position p g ∷ placed_from (suc p) gates

-- the gates with their positions
abbrev pub placed : List Gate → List Placed
placed gates = placed_from 0 gates

-- the gates without their positions
abbrev pub gates_of : List Placed → List Gate
gates_of xs = map (λ x. x.gate) xs

-- the gates at the positions of which keep holds, in order
abbrev pub kept : (ℕ → Bool) → List Placed → List Gate
kept keep [] = []
kept keep (x ∷ xs) = cond (keep x.position) (x.gate ∷ kept keep xs) (kept keep xs)

-- a turn: whether backward, the rotation of the list after that, the template lines that are flipped, and the new line of each template line
pub record Turn : Type 0 where
  pub back : Bool
  pub rotation : ℕ
  pub flips : ℕ
  pub table : List ℕ

-- forward as it stands; backward last to first, each gate inverted
abbrev pub directed : KindMeaning → Bool → List Placed → List Placed
directed k true xs = map (on_gate k.inverse) (reverse xs)
directed k false xs = xs

-- directed, then rotated, then flipped, then on the new lines; a gate keeps its position, and so each group goes with its gates
abbrev pub turned : KindMeaning → Turn → List Placed → List Placed
turned k t xs = map (on_gate (k.renamed t.table)) (map (on_gate (flipped_or k t.flips)) (rotated t.rotation (directed k t.back xs)))

-- t is a turn of the template onto n lines: none where some gate has no flipped form
pub record IsTurn (k : KindMeaning) (n : ℕ) (e : TemplateMeaning) (t : Turn) : Type 0 where
  pub rotates : t.rotation < size e
  pub flips : t.flips < 2 ^ e.lines
  pub flippable : AllByRecursion (λ x. Flippable k t.flips x.gate) (directed k t.back (placed e.gates))
  pub maps : Table e.lines n t.table

-- controls of one sign on one line for all gates of one group
pub record Added : Type 0 where
  pub line : ℕ
  pub sign : Sign
  pub group : ℕ

-- position p is in the i-th of the listed groups
abbrev pub in_listed : List ℕ → ℕ → ℕ → Bool
in_listed [] i p = false
in_listed (group ∷ groups) zero p = bit group p
in_listed (group ∷ groups) (suc i) p = in_listed groups i p

-- position p is in the group of that number: group 0 is the whole template, the listed groups count from 1
abbrev pub member : List ℕ → ℕ → ℕ → Bool
member groups zero p = true
member groups (suc i) p = in_listed groups i p

-- the gate at position p with the controls that are added to its groups
abbrev pub added : KindMeaning → List ℕ → List Added → ℕ → Gate → Gate
added k groups [] p g = g
added k groups (a ∷ adds) p g = cond (member groups a.group p) (k.controlled a.line a.sign (added k groups adds p g)) (added k groups adds p g)

-- the list with the controls added
abbrev pub extended : KindMeaning → List ℕ → List Added → List Placed → List Placed
extended k groups adds xs = map (λ x. on_gate (added k groups adds x.position) x) xs

-- the controls are on different lines of the n, none of them in the table
abbrev pub Fits : ℕ → List ℕ → List Added → Type 0
Fits n table [] = Unit {0}
Fits n table (a ∷ adds) = (a.line < n) × Outside table a.line × AllByRecursion (λ b. b.line ≢ a.line) adds × Fits n table adds

-- the turned template with its positions and with the controls added
abbrev pub turned_template : KindMeaning → TemplateMeaning → Turn → List Added → List Placed
turned_template k e t adds = extended k e.groups adds (turned k t (placed e.gates))

-- its gates
abbrev pub turned_gates : KindMeaning → TemplateMeaning → Turn → List Added → List Gate
turned_gates k e t adds = gates_of (turned_template k e t adds)

-- its gates in none of the selected groups
abbrev pub turned_unselected : KindMeaning → (ℕ → Bool) → TemplateMeaning → Turn → List Added → List Gate
turned_unselected k selection e t adds = kept (outside_selected selection e.groups) (turned_template k e t adds)
