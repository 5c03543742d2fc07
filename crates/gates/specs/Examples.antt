-- Worked examples: questions about the definitions, each with the answer that the rules give.
use Rattle.std.specs.Prelude.{◌≡◌, ℕ, suc, Bool, true, false, List, [], ◌∷◌, is_some, slice_index_or}
use Rattle.std.specs.List.{AllByRecursion}
use Rattle.gates.specs.declared.gate.Gate.{Gate}
use Rattle.gates.specs.Lines.{State}
use Rattle.gates.specs.Controls.{gate}
use Rattle.gates.specs.Kinds.{KindMeaning}
use Rattle.gates.specs.Toffoli.{toffoli}
use Rattle.gates.specs.Fredkin.{fredkin}

-- what can be asked of a kind: where a gate sends a state, written line 0 first, whether two gates interchange, whether a gate is
-- well formed for so many lines, and whether it has a flipped form for the chosen lines
pub data Question : Type 0 where
  sent : KindMeaning → Gate → List Bool → Question
  interchange : KindMeaning → Gate → Gate → Question
  well_formed : KindMeaning → ℕ → Gate → Question
  flips : KindMeaning → ℕ → Gate → Question

-- an answer: a state, written line 0 first, or yes or no
pub data Answer : Type 0 where
  state : List Bool → Answer
  holds : Bool → Answer

-- the state that is written so, 0 on the lines behind
abbrev pub as_state : List Bool → State
as_state values i = slice_index_or values i false

-- the values of as many lines as the list has, from line i on
abbrev pub written : ℕ → List Bool → State → List Bool
written i [] s = []
written i (v ∷ values) s = s i ∷ written (suc i) values s

-- what the definitions answer
abbrev pub answer : Question → Answer
answer (sent k g values) = state (written 0 values (k.sends g (as_state values)))
answer (interchange k g h) = holds (k.free g h)
answer (well_formed k n g) = holds (k.form n g)
answer (flips k f g) = holds (is_some (k.flipped f g))

-- a question with the answer that it must have
pub record Row : Type 0 where
  pub asked : Question
  pub expected : Answer

-- the row's answer is the one that the definitions give
abbrev pub Right : Row → Type 0
Right r = answer r.asked ≡ r.expected

-- the rows: sets of controls are written as sums of 2 ^ line
abbrev pub rows : List Row
rows =
    -- t 2 +0 -1 sends 100 to 101
    record { asked = sent toffoli (gate 2 0 1 2) (true ∷ false ∷ false ∷ []); expected = state (true ∷ false ∷ true ∷ []) }
    -- and leaves 110
    ∷ record { asked = sent toffoli (gate 2 0 1 2) (true ∷ true ∷ false ∷ []); expected = state (true ∷ true ∷ false ∷ []) }
    -- f 0 1 -2 sends 100 to 010
    ∷ record { asked = sent fredkin (gate 0 1 0 4) (true ∷ false ∷ false ∷ []); expected = state (false ∷ true ∷ false ∷ []) }
    -- and leaves 101
    ∷ record { asked = sent fredkin (gate 0 1 0 4) (true ∷ false ∷ true ∷ []); expected = state (true ∷ false ∷ true ∷ []) }
    -- t 0 +1 and t 0 -2 interchange
    ∷ record { asked = interchange toffoli (gate 0 0 2 0) (gate 0 0 0 4); expected = holds true }
    -- t 0 +1 and t 1 do not
    ∷ record { asked = interchange toffoli (gate 0 0 2 0) (gate 1 0 0 0); expected = holds false }
    -- f 0 1 +2 and f 0 1 -2 interchange, and so do f 0 1 and f 2 3; f 0 1 and f 1 2 do not
    ∷ record { asked = interchange fredkin (gate 0 1 4 0) (gate 0 1 0 4); expected = holds true }
    ∷ record { asked = interchange fredkin (gate 0 1 0 0) (gate 2 3 0 0); expected = holds true }
    ∷ record { asked = interchange fredkin (gate 0 1 0 0) (gate 1 2 0 0); expected = holds false }
    -- t 2 +0 -1 is well formed for 3 lines and not for 2; with both signs on line 0 it is not well formed
    ∷ record { asked = well_formed toffoli 3 (gate 2 0 1 2); expected = holds true }
    ∷ record { asked = well_formed toffoli 2 (gate 2 0 1 2); expected = holds false }
    ∷ record { asked = well_formed toffoli 3 (gate 2 0 1 1); expected = holds false }
    -- f 0 1 is well formed for 2 lines, f 1 0 is not
    ∷ record { asked = well_formed fredkin 2 (gate 0 1 0 0); expected = holds true }
    ∷ record { asked = well_formed fredkin 2 (gate 1 0 0 0); expected = holds false }
    -- f 0 1 has no flipped form for line 0 alone, but one for both lines
    ∷ record { asked = flips fredkin 1 (gate 0 1 0 0); expected = holds false }
    ∷ record { asked = flips fredkin 3 (gate 0 1 0 0); expected = holds true }
    ∷ []

-- every row is right
abbrev pub ExamplesHold : Type 0
ExamplesHold = AllByRecursion Right rows
