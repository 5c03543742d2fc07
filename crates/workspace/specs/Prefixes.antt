-- Occurrences by the first numbers of their keys.
use Rattle.std.specs.Prelude.{◌≡◌, ℕ, List, ◌++◌}
use Rattle.gates.specs.Kinds.{KindMeaning}
use Rattle.workspace.specs.Conditions.{Condition}
use Rattle.workspace.specs.Occurrences.{Occurrence, key_of, OccursAs}

-- an occurrence in a condition whose key begins with the prefix
pub record Begun (k : KindMeaning) (c : Condition) (prefix : List ℕ) (o : Occurrence) : Type 0 where
  pub rules : OccursAs k c.store.lines c.store.gates c.shelf o
  pub rest : List ℕ
  pub begins : key_of o ≡ prefix ++ rest
