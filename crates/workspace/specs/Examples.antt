-- Worked examples: questions about the definitions, each with the answer that the rules give.
use Rattle.std.specs.Prelude.{◌≡◌, ℕ, Bool, true, false, List, [], ◌∷◌, Some, None, Option}
use Rattle.std.specs.List.{AllByRecursion}
use Rattle.gates.specs.declared.gate.Gate.{Gate}
use Rattle.gates.specs.Controls.{gate}
use Rattle.gates.specs.Kinds.{KindMeaning}
use Rattle.gates.specs.Toffoli.{toffoli}
use Rattle.gates.specs.Fredkin.{fredkin}
use Rattle.gates.specs.Examples as gates
use Rattle.workspace.specs.declared.refusal.TemplateRefusal.{TemplateRefusal}
use Rattle.workspace.specs.Templates.{TemplateMeaning}
use Rattle.workspace.specs.TemplateTests.{template_test}
use Rattle.workspace.specs.Turns.{Turn}
use Rattle.workspace.specs.TurnTests.{turn_test}
use Rattle.workspace.specs.Refusals.{template_refusal_number}

-- what can be asked: whether a template meets the rules, and whether something is a turn of it onto so many lines
pub data Question : Type 0 where
  checked : KindMeaning → TemplateMeaning → Question
  turn : KindMeaning → ℕ → TemplateMeaning → Turn → Question

-- an answer: the template is accepted, or refused with that number; or yes or no
pub data Answer : Type 0 where
  accepted : Answer
  refused : ℕ → Answer
  holds : Bool → Answer

-- the answer to a template, by what the tests say of it
abbrev pub verdict : Option TemplateRefusal → Answer
verdict None = accepted
verdict (Some refusal) = refused (template_refusal_number refusal)

-- what the definitions answer
abbrev pub answer : Question → Answer
answer (checked k t) = verdict (template_test k t)
answer (turn k n e t) = holds (turn_test k n e t)

-- a question with the answer that it must have
pub record Row : Type 0 where
  pub asked : Question
  pub expected : Answer

-- the row's answer is the one that the definitions give
abbrev pub Right : Row → Type 0
Right r = answer r.asked ≡ r.expected

-- t 0 +1; t 1; t 0 +1; t 1; t 0 on two lines: its gates, and with the groups {0, 2, 4} and {1, 3, 4}
abbrev pub five : List Gate
five = gate 0 0 2 0 ∷ gate 1 0 0 0 ∷ gate 0 0 2 0 ∷ gate 1 0 0 0 ∷ gate 0 0 0 0 ∷ []

abbrev pub five_template : TemplateMeaning
five_template = record { lines = 2; gates = five; groups = 21 ∷ 26 ∷ [] }

-- the same without its last gate, and without groups
abbrev pub four_template : TemplateMeaning
four_template = record { lines = 2; gates = gate 0 0 2 0 ∷ gate 1 0 0 0 ∷ gate 0 0 2 0 ∷ gate 1 0 0 0 ∷ []; groups = [] }

-- t 0 four times on one line, with these groups
abbrev pub four_inversions_lem : List ℕ → TemplateMeaning
four_inversions_lem groups = record { lines = 1; gates = gate 0 0 0 0 ∷ gate 0 0 0 0 ∷ gate 0 0 0 0 ∷ gate 0 0 0 0 ∷ []; groups = groups }

-- f 0 1 twice on two lines
abbrev pub two_exchanges : TemplateMeaning
two_exchanges = record { lines = 2; gates = gate 0 1 0 0 ∷ gate 0 1 0 0 ∷ []; groups = [] }

-- forward, not rotated, each line where it is, with these lines flipped
abbrev pub flipping : ℕ → Turn
flipping flips = record { back = false; rotation = 0; flips = flips; table = 0 ∷ 1 ∷ [] }

-- the rows: sets of positions and of lines are written as sums of 2 ^ position
abbrev pub rows : List Row
rows =
    record { asked = checked toffoli five_template; expected = accepted }
    ∷ record { asked = checked toffoli four_template; expected = refused 6 }
    -- {0, 1} and {1, 2} leave one inversion, each alone leaves two
    ∷ record { asked = checked toffoli (four_inversions_lem (3 ∷ 6 ∷ [])); expected = refused 8 }
    ∷ record { asked = checked toffoli (four_inversions_lem (3 ∷ [])); expected = accepted }
    ∷ record { asked = checked toffoli (four_inversions_lem (6 ∷ [])); expected = accepted }
    -- a group may be the whole template, and groups may be equal
    ∷ record { asked = checked toffoli (four_inversions_lem (15 ∷ 15 ∷ [])); expected = accepted }
    -- flipping line 0 alone is no turn, flipping both lines is one
    ∷ record { asked = turn fredkin 2 two_exchanges (flipping 1); expected = holds false }
    ∷ record { asked = turn fredkin 2 two_exchanges (flipping 3); expected = holds true }
    ∷ []

-- every row is right, and so are the rows of the gates
pub record ExamplesHold : Type 0 where
  pub gates : gates.ExamplesHold
  pub templates : AllByRecursion Right rows
