-- Extending a turned template, in memory.
use Rattle.std.specs.Prelude.{ℕ, Bool, cond, List, Some, None, Ok, Err, Option, Result}
use Rattle.fixed_list.specs.declared.fixed_list.FixedList.{FixedList}
use Rattle.fixed_list.specs.Lists.{contents}
use Rattle.gates.specs.declared.gate.Gate.{Gate}
use Rattle.gates.specs.declared.gate.Sign.{Sign}
use Rattle.gates.specs.declared.gate.Sign.TheVariants.{Positive, Negative}
use Rattle.gates.specs.Lines.{bit}
use Rattle.gates.specs.Kinds.{KindMeaning}
use Rattle.workspace.specs.declared.asking.Addition.{Addition}
use Rattle.workspace.specs.declared.asking.NoGroup.{NoGroup}
use Rattle.workspace.specs.declared.posed.Member.{Member}
use Rattle.workspace.specs.Templates.{TemplateMeaning}
use Rattle.workspace.specs.Turns.{Placed, on_gate, placed, turned, member, Added, extended}
use Rattle.workspace.specs.Occurrences.{Occurrence, Asked}
use Rattle.workspace.specs.Occurrences.Asked.{nothing, control_on, refused}
use Rattle.workspace.specs.Posing.{placed_of}

-- the control that a value holds
abbrev pub added_of : Addition → Added
added_of a = record { line = a.line; sign = a.sign; group = a.group }

-- the answer for a line that asks for this
abbrev pub answer_of : ℕ → Asked → Result (Option Addition) NoGroup
answer_of l nothing = Ok None
answer_of l (control_on sign group) = Ok (Some record { line = l; sign = sign; group = group })
answer_of l refused = Err record {}

-- what is asked for with a sign, where this group was found or none
abbrev pub found_as : Sign → Option ℕ → Asked
found_as sign None = refused
found_as sign (Some group) = control_on sign group

-- line l is a control of this sign
abbrev pub signed : Sign → Gate → ℕ → Bool
signed Positive g l = bit g.positive l
signed Negative g l = bit g.negative l

-- the gate with one more control, where its position is in the group
abbrev pub controlled_in : KindMeaning → List ℕ → Added → Placed → Placed
controlled_in k groups a x = on_gate (λ g. cond (member groups a.group x.position) (k.controlled a.line a.sign g) g) x

-- the gates with the controls that are added, if any can be
abbrev pub extended_by : KindMeaning → List ℕ → List Placed → Option (List Added) → Option (List Placed)
extended_by k groups xs None = None
extended_by k groups xs (Some adds) = Some (extended k groups adds xs)

-- the template as the occurrence turns it, with the controls that are added, if any can be
abbrev pub turned_by : KindMeaning → TemplateMeaning → Occurrence → Option (List Added) → Option (List Placed)
turned_by k e o adds = extended_by k e.groups (turned k o.turn (placed e.gates)) adds

-- the gates with their positions that a value may hold
abbrev pub posed_of : Result (FixedList Member 8) NoGroup → Option (List Placed)
posed_of (Ok list) = Some (placed_of (contents list))
posed_of (Err refusal) = None
