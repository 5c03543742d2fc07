-- The laws of stores and mounts, which hold for every kind.
use Rattle.std.specs.Prelude.{◌≡◌, ℕ, true, List, ◌∷◌, ◌++◌, Decides}
use Rattle.gates.specs.declared.gate.Gate.{Gate}
use Rattle.gates.specs.Lines.{State, Outside, through}
use Rattle.gates.specs.Kinds.{KindMeaning}
use Rattle.gates.specs.Cascades.{run}
use Rattle.stores.specs.Stores.{StoreMeaning, Bounded, Sound, after, overwrite_outcome, insert_outcome, remove_outcome}
use Rattle.stores.specs.Mounts.{reversed, renamed_by, rearranges, inverse_of, Rearranged, window}

-- what a call may leave of a store: the lines, the capacity and the gates outside each window as they were, a list that fits, and well-formed gates where they were well formed
pub record Kept (k : KindMeaning) (before now : StoreMeaning) : Type 0 where
  pub lines : now.lines ≡ before.lines
  pub capacity : now.capacity ≡ before.capacity
  pub outside : now.outside ≡ before.outside
  pub bounded : Bounded before → Bounded now
  pub sound : Sound k before → Sound k now

-- the gates before a window, its list and the gates behind it, in a row, are the list below
pub record Between (m w : StoreMeaning) : Type 0 where
  pub before : List Gate
  pub behind : List Gate
  pub outside : w.outside ≡ (before, behind) ∷ m.outside
  pub in_a_row : before ++ (w.gates ++ behind) ≡ m.gates

-- the laws
pub record StoreLaws (k : KindMeaning) : Type 0 where
  -- every call, refused or not, changes only the list, and keeps it well formed and within the capacity
  pub overwriting : (m : StoreMeaning) (place : ℕ) (g : Gate) → Kept k m (after m (overwrite_outcome k m place g))
  pub inserting : (m : StoreMeaning) (place : ℕ) (g : Gate) → Kept k m (after m (insert_outcome k m place g))
  pub removing : (m : StoreMeaning) (place : ℕ) → Kept k m (after m (remove_outcome m place))
  -- reversed twice shows the list below
  pub reversed_twice : (m : StoreMeaning) → Sound k m → reversed k (reversed k m) ≡ m
  pub reversed_sound : (m : StoreMeaning) → Sound k m → Sound k (reversed k m)
  -- running what a reversed mount shows undoes running what is below, and the other way round
  pub reversed_undoes : (m : StoreMeaning) → Sound k m → (s : State) → run k (reversed k m).gates (run k m.gates s) ≡ s
  pub reversed_undone : (m : StoreMeaning) → Sound k m → (s : State) → run k m.gates (run k (reversed k m).gates s) ≡ s
  -- a table passes the test exactly when it and its inverse are tables of the n lines that undo each other
  pub rearrangement : (n : ℕ) (table : List ℕ) → Decides (rearranges n table) (Rearranged n table (inverse_of n table))
  -- renamed by a table and then by its inverse shows the list below
  pub renamed_back : (m : StoreMeaning) (table : List ℕ) → rearranges m.lines table ≡ true → Sound k m → renamed_by k (inverse_of m.lines table) (renamed_by k table m) ≡ m
  pub renamed_sound : (m : StoreMeaning) (table : List ℕ) → rearranges m.lines table ≡ true → Sound k m → Sound k (renamed_by k table m)
  -- running what a renamed mount shows does on the new lines what running below does on the old, and leaves the lines that there are not
  pub renamed_runs : (m : StoreMeaning) (table : List ℕ) → rearranges m.lines table ≡ true → Sound k m → (s : State)
      → through table (run k (renamed_by k table m).gates s) ≡ run k m.gates (through table s)
  pub renamed_leaves : (m : StoreMeaning) (table : List ℕ) → rearranges m.lines table ≡ true → Sound k m → (s : State) (j : ℕ) → Outside table j
      → run k (renamed_by k table m).gates s j ≡ s j
  -- a window's list between its outsides is the list below
  pub window_between : (m : StoreMeaning) (start size : ℕ) → Between m (window start size m)
  pub window_sound : (m : StoreMeaning) (start size : ℕ) → Sound k m → Sound k (window start size m)
