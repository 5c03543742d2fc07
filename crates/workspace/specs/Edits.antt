-- What is taken out of a list of gates and put into it.
use Rattle.std.specs.Prelude.{ℕ, List, [], ◌∷◌, ◌++◌, take, drop}
use Rattle.std.specs.List.{remove}
use Rattle.gates.specs.declared.gate.Gate.{Gate}
use Rattle.gates.specs.Kinds.{KindMeaning}
use Rattle.gates.specs.Cascades.{backward}

-- the list without the gates at these places, of which the last goes first
abbrev pub without : List Gate → List ℕ → List Gate
without gates [] = gates
without gates (q ∷ places) = remove (without gates places) q

-- the list with the inverses of more gates, last to first, before a place
abbrev pub with_inverses : KindMeaning → List Gate → ℕ → List Gate → List Gate
with_inverses k gates place more = take place gates ++ (backward k more ++ drop place gates)
