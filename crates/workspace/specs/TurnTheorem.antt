-- The theorem of turns: what a template that meets the rules still does when it is turned, and what replacing a part of a cascade by it keeps.
use Rattle.std.specs.Prelude.{◌≡◌, ℕ, ◌+◌, ◌≤◌, Bool, not, List, ◌++◌, length, take, drop}
use Rattle.std.specs.List.{AllByRecursion}
use Rattle.gates.specs.declared.gate.Gate.{Gate}
use Rattle.gates.specs.Lines.{State}
use Rattle.gates.specs.Kinds.{KindMeaning, Formed}
use Rattle.gates.specs.Cascades.{run, Restores, backward, picked, Moves}
use Rattle.workspace.specs.Templates.{TemplateMeaning, MeetsRules, size}
use Rattle.workspace.specs.Turns.{Turn, IsTurn, Added, Fits, turned_gates, turned_unselected}

-- the cascade without the gates that stand at the places from p on of which c holds, counted from p, which are the first m of the turned ones;
-- the inverses of the other turned ones, last to first, stand at p in their stead
abbrev pub replaced : KindMeaning → List Gate → ℕ → ℕ → (ℕ → Bool) → List Gate → List Gate
replaced k turned p m c gates = take p gates ++ (backward k (drop m turned) ++ picked (λ i. not (c i)) (drop p gates))

-- the turned gates, with the controls added; with none added they are the turned gates alone
pub record TurnLaws (k : KindMeaning) (n : ℕ) (e : TemplateMeaning) (t : Turn) (adds : List Added) : Type 0 where
  -- they restore every state, and so do those in none of the selected groups, whatever is selected
  pub restore : Restores k (turned_gates k e t adds)
  pub selections : (selection : ℕ → Bool) → Restores k (turned_unselected k selection e t adds)
  -- there are as many as the template has, each well formed for the n lines
  pub as_many : length (turned_gates k e t adds) ≡ size e
  pub formed : AllByRecursion (Formed k n) (turned_gates k e t adds)
  -- the first m do what the inverses of the others, last to first, do
  pub split : (m : ℕ) (s : State) → run k (take m (turned_gates k e t adds)) s ≡ run k (backward k (drop m (turned_gates k e t adds))) s
  -- where the first m stand in a cascade behind p, and each interchanges with those of the others that stand between,
  -- the replacement keeps what the cascade does, and its form
  pub replacement : (p m : ℕ) (c : ℕ → Bool) (gates : List Gate) → AllByRecursion (Formed k n) gates → Moves k c (drop p gates)
      → picked c (drop p gates) ≡ take m (turned_gates k e t adds)
      → (s : State) → run k (replaced k (turned_gates k e t adds) p m c gates) s ≡ run k gates s
  pub replacement_formed : (p m : ℕ) (c : ℕ → Bool) (gates : List Gate) → AllByRecursion (Formed k n) gates
      → AllByRecursion (Formed k n) (replaced k (turned_gates k e t adds) p m c gates)
  -- m gates go and the others of the template come
  pub replacement_saves : (p m : ℕ) (c : ℕ → Bool) (gates : List Gate) → m ≤ size e → p ≤ length gates
      → picked c (drop p gates) ≡ take m (turned_gates k e t adds)
      → length (replaced k (turned_gates k e t adds) p m c gates) + (m + m) ≡ length gates + size e

-- for every template that meets the rules, every turn of it onto n lines, and all controls that can be added
abbrev pub Turning : KindMeaning → Type 0
Turning k = (n : ℕ) (e : TemplateMeaning) (t : Turn) (adds : List Added) → MeetsRules k e → IsTurn k n e t → Fits n t.table adds → TurnLaws k n e t adds
