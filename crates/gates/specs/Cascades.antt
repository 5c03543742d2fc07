-- Cascades: lists of gates of one kind, what running one does, and the laws of that, which rest on the laws of a kind alone.
use Rattle.std.specs.Prelude.{◌≡◌, ℕ, suc, ◌^◌, ◌<◌, Bool, true, false, cond, not, List, [], ◌∷◌, ◌++◌, map, reverse, length, take, drop, is_some, Some, None, Option, slice_index_or}
use Rattle.std.specs.List.{AllByRecursion}
use Rattle.gates.specs.declared.gate.Gate.{Gate}
use Rattle.gates.specs.Lines.{State, bit, with_line_lem, upto, inverted, through, Outside, Table}
use Rattle.gates.specs.Kinds.{KindMeaning, Formed, Idle}

-- each gate of the list once, first to last
abbrev pub run : KindMeaning → List Gate → State → State
run k [] s = s
run k (g ∷ gates) s = run k gates (k.sends g s)

-- the list restores every state
abbrev pub Restores : KindMeaning → List Gate → Type 0
Restores k gates = (s : State) → run k gates s ≡ s

-- last to first, each gate inverted
abbrev pub backward : KindMeaning → List Gate → List Gate
backward k gates = map k.inverse (reverse gates)

-- for gates that are well formed for some number of lines: either list restores every state after the other
abbrev pub Undoes : KindMeaning → List Gate → List Gate → Type 0
Undoes k gates back = (n : ℕ) → AllByRecursion (Formed k n) gates → ((s : State) → run k back (run k gates s) ≡ s) × ((s : State) → run k gates (run k back s) ≡ s)

-- the list from place r on, then what came before
abbrev pub rotated : {X : Type 0} → ℕ → List X → List X
rotated r xs = drop r xs ++ take r xs

-- a gate that there is, or else the given one
abbrev pub or_else : Option Gate → Gate → Gate
or_else (Some h) g = h
or_else None g = g

-- the gate's flipped form; the gate itself where it has none
abbrev pub flipped_or : KindMeaning → ℕ → Gate → Gate
flipped_or k f g = or_else (k.flipped f g) g

-- the gate has a flipped form
abbrev pub Flippable : KindMeaning → ℕ → Gate → Type 0
Flippable k f g = is_some (k.flipped f g) ≡ true

-- the gates at the places of which c holds, in order
abbrev pub picked : (ℕ → Bool) → List Gate → List Gate
picked c [] = []
picked c (g ∷ gates) = cond (c 0) (g ∷ picked (λ i. c (suc i)) gates) (picked (λ i. c (suc i)) gates)

-- each gate at a place of which c holds interchanges with each gate before it at a place of which c does not hold
abbrev pub Moves : KindMeaning → (ℕ → Bool) → List Gate → Type 0
Moves k c gates = (i j : ℕ) (d : Gate) → i < j → j < length gates → c i ≡ false → c j ≡ true → k.free (slice_index_or gates i d) (slice_index_or gates j d) ≡ true

-- what running does, for lists of gates that are well formed for n lines
pub record CascadeLaws (k : KindMeaning) : Type 0 where
  -- running one list and then another is running both in a row
  pub in_a_row : (xs ys : List Gate) (s : State) → run k (xs ++ ys) s ≡ run k ys (run k xs s)
  -- a list backward undoes it, and it undoes the list backward
  pub backward_undoes : (n : ℕ) (gates : List Gate) → AllByRecursion (Formed k n) gates → (s : State) → run k (backward k gates) (run k gates s) ≡ s
  pub backward_undone : (n : ℕ) (gates : List Gate) → AllByRecursion (Formed k n) gates → (s : State) → run k gates (run k (backward k gates) s) ≡ s
  pub backward_formed : (n : ℕ) (gates : List Gate) → AllByRecursion (Formed k n) gates → AllByRecursion (Formed k n) (backward k gates)
  -- backward twice is the list itself
  pub backward_twice : (n : ℕ) (gates : List Gate) → AllByRecursion (Formed k n) gates → backward k (backward k gates) ≡ gates
  -- a list that restores every state still does backward, rotated, flipped and renamed
  pub backward_restores : (n : ℕ) (gates : List Gate) → AllByRecursion (Formed k n) gates → Restores k gates → Restores k (backward k gates)
  pub rotated_restores : (n r : ℕ) (gates : List Gate) → AllByRecursion (Formed k n) gates → Restores k gates → Restores k (rotated r gates)
  pub flipped_restores : (n f : ℕ) (gates : List Gate) → AllByRecursion (Formed k n) gates → AllByRecursion (Flippable k f) gates
      → Restores k gates → Restores k (map (flipped_or k f) gates)
  pub renamed_restores : (l n : ℕ) (t : List ℕ) (gates : List Gate) → Table l n t → AllByRecursion (Formed k l) gates
      → Restores k gates → Restores k (map (k.renamed t) gates)
  -- of a list that restores every state, the first m gates do what the others do backward
  pub split : (n m : ℕ) (gates : List Gate) → AllByRecursion (Formed k n) gates → Restores k gates
      → (s : State) → run k (take m gates) s ≡ run k (backward k (drop m gates)) s
  -- flipped gates run as the gates do between two inversions of the chosen lines
  pub flipped_runs : (n f : ℕ) (gates : List Gate) → AllByRecursion (Formed k n) gates → AllByRecursion (Flippable k f) gates
      → (s : State) → run k (map (flipped_or k f) gates) s ≡ inverted f (run k gates (inverted f s))
  -- renamed gates do on the new lines what they did on the old, and leave the other lines
  pub renamed_runs : (l n : ℕ) (t : List ℕ) (gates : List Gate) → Table l n t → AllByRecursion (Formed k l) gates
      → (s : State) → through t (run k (map (k.renamed t) gates) s) ≡ run k gates (through t s)
  pub renamed_leaves : (l n : ℕ) (t : List ℕ) (gates : List Gate) → Table l n t → AllByRecursion (Formed k l) gates
      → (s : State) (j : ℕ) → Outside t j → run k (map (k.renamed t) gates) s j ≡ s j
  -- exchanging neighbours that interchange keeps what the list does
  pub exchanging : (n : ℕ) (xs ys : List Gate) (g h : Gate) → Formed k n g → Formed k n h → k.free g h ≡ true
      → (s : State) → run k (xs ++ g ∷ h ∷ ys) s ≡ run k (xs ++ h ∷ g ∷ ys) s
  -- and so does moving gates to the front over gates that they interchange with
  pub moving : (n : ℕ) (c : ℕ → Bool) (gates : List Gate) → AllByRecursion (Formed k n) gates → Moves k c gates
      → (s : State) → run k gates s ≡ run k (picked c gates ++ picked (λ i. not (c i)) gates) s
  -- a line that no gate reads or changes has no part in the run, nor do the lines from n on
  pub idle_line : (l : ℕ) (gates : List Gate) → AllByRecursion (λ g. Idle k g l) gates
      → (s : State) (v : Bool) → run k gates (with_line_lem s l v) ≡ with_line_lem (run k gates s) l v
  pub local : (n : ℕ) (gates : List Gate) → AllByRecursion (Formed k n) gates → (s u : State) → run k gates (upto n s u) ≡ upto n (run k gates s) u
  -- a list restores every state where it restores the 2 ^ n states of its n lines
  pub few_states : (n : ℕ) (gates : List Gate) → AllByRecursion (Formed k n) gates → ((x : ℕ) → x < 2 ^ n → run k gates (bit x) ≡ bit x) → Restores k gates
