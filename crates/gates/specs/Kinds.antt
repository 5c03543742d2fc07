-- What a gate kind means, and the laws that every kind shows.
use Rattle.std.specs.Prelude.{◌≡◌, ℕ, ◌<◌, Bool, true, false, cond, List, Some, Option, slice_index}
use Rattle.std.specs.Bool.{beq}
use Rattle.gates.specs.declared.gate.Gate.{Gate}
use Rattle.gates.specs.declared.gate.Sign.{Sign}
use Rattle.gates.specs.Lines.{State, bit, with_line_lem, upto, inverted, through, Outside, Table, unmoved}
use Rattle.gates.specs.Controls.{reads, renamed_set, exchanged, more_positive, more_negative, wanted}

-- a kind, by what its gates are and do
pub record KindMeaning : Type 0 where
  -- whether the gate is well formed for n lines
  pub form : ℕ → Gate → Bool
  -- where the gate sends a state
  pub sends : Gate → State → State
  -- the gate that undoes it
  pub inverse : Gate → Gate
  -- whether the two interchange
  pub free : Gate → Gate → Bool
  -- the gate on the new lines of a table
  pub renamed : List ℕ → Gate → Gate
  -- the gate between two inversions of the chosen lines, where there is such a gate
  pub flipped : ℕ → Gate → Option Gate
  -- the gate with one more control
  pub controlled : ℕ → Sign → Gate → Gate
  -- the set of the lines that it names and that are no controls: a target line, or the exchanged lines
  pub targets : Gate → ℕ

-- the gate is well formed for n lines
abbrev pub Formed : KindMeaning → ℕ → Gate → Type 0
Formed k n g = k.form n g ≡ true

-- the gate neither reads nor changes line l
abbrev pub Idle : KindMeaning → Gate → ℕ → Type 0
Idle k g l = (s : State) (v : Bool) → k.sends g (with_line_lem s l v) ≡ with_line_lem (k.sends g s) l v

-- two gates have the same controls and the same target lines
pub record SameLines (k : KindMeaning) (g h : Gate) : Type 0 where
  pub positive : h.positive ≡ g.positive
  pub negative : h.negative ≡ g.negative
  pub targets : k.targets h ≡ k.targets g

-- the controls and target lines of h are those of g on their new lines
pub record MovedLines (k : KindMeaning) (table : List ℕ) (g h : Gate) : Type 0 where
  pub positive : h.positive ≡ renamed_set table g.positive
  pub negative : h.negative ≡ renamed_set table g.negative
  pub targets : k.targets h ≡ renamed_set table (k.targets g)

-- the controls of h are those of g with the signs on the lines of f inverted, and its target lines are those of g
pub record FlippedLines (k : KindMeaning) (f : ℕ) (g h : Gate) : Type 0 where
  pub positive : h.positive ≡ exchanged f g.positive g.negative
  pub negative : h.negative ≡ exchanged f g.negative g.positive
  pub targets : k.targets h ≡ k.targets g

-- the controls of h are those of g and line l with that sign, and its target lines are those of g
pub record AddedLines (k : KindMeaning) (l : ℕ) (sign : Sign) (g h : Gate) : Type 0 where
  pub positive : h.positive ≡ more_positive l sign g.positive
  pub negative : h.negative ≡ more_negative l sign g.negative
  pub targets : k.targets h ≡ k.targets g

-- the laws of a kind: for well-formed gates and for every state
pub record KindLaws (k : KindMeaning) : Type 0 where
  -- a gate well formed for n lines neither reads nor changes the lines from n on
  pub local : (n : ℕ) (g : Gate) → Formed k n g → (s u : State) → k.sends g (upto n s u) ≡ upto n (k.sends g s) u
  -- it changes none but its target lines, which are lines below n and no controls
  pub changes : (n : ℕ) (g : Gate) → Formed k n g → (s : State) (i : ℕ) → bit (k.targets g) i ≡ false → k.sends g s i ≡ s i
  pub targets_apart : (n : ℕ) (g : Gate) → Formed k n g → (i : ℕ) → bit (k.targets g) i ≡ true → (i < n) × (reads g i ≡ false)
  -- a gate and its inverse, in either order, restore every state
  pub undoes : (n : ℕ) (g : Gate) → Formed k n g → (s : State) → k.sends (k.inverse g) (k.sends g s) ≡ s
  pub undone : (n : ℕ) (g : Gate) → Formed k n g → (s : State) → k.sends g (k.sends (k.inverse g) s) ≡ s
  pub inverse_formed : (n : ℕ) (g : Gate) → Formed k n g → Formed k n (k.inverse g)
  pub inverse_twice : (n : ℕ) (g : Gate) → Formed k n g → k.inverse (k.inverse g) ≡ g
  pub inverse_lines : (n : ℕ) (g : Gate) → Formed k n g → SameLines k g (k.inverse g)
  -- gates that interchange give one state in both orders
  pub interchange : (n : ℕ) (g h : Gate) → Formed k n g → Formed k n h → k.free g h ≡ true → (s : State)
      → k.sends h (k.sends g s) ≡ k.sends g (k.sends h s)
  -- a renamed gate does on the new lines what it did on the old, and leaves the other lines
  pub renamed_on : (l n : ℕ) (t : List ℕ) (g : Gate) → Table l n t → Formed k l g → (s : State) (i : ℕ) → i < l
      → k.sends (k.renamed t g) s (slice_index t i) ≡ k.sends g (through t s) i
  pub renamed_off : (l n : ℕ) (t : List ℕ) (g : Gate) → Table l n t → Formed k l g → (s : State) (j : ℕ) → Outside t j
      → k.sends (k.renamed t g) s j ≡ s j
  pub renamed_formed : (l n : ℕ) (t : List ℕ) (g : Gate) → Table l n t → Formed k l g → Formed k n (k.renamed t g)
  pub renamed_lines : (l n : ℕ) (t : List ℕ) (g : Gate) → Table l n t → Formed k l g → MovedLines k t g (k.renamed t g)
  -- renaming there and back, or by a table that leaves every line where it is, gives the same gate
  pub renamed_back : (n : ℕ) (t u : List ℕ) (g : Gate) → Table n n t → Table n n u
      → ((i : ℕ) → i < n → slice_index u (slice_index t i) ≡ i) → Formed k n g → k.renamed u (k.renamed t g) ≡ g
  pub renamed_same : (n : ℕ) (g : Gate) → Formed k n g → k.renamed (unmoved n) g ≡ g
  -- a flipped gate does what the gate does between two inversions of the chosen lines
  pub flipped_does : (n f : ℕ) (g h : Gate) → Formed k n g → k.flipped f g ≡ Some h → (s : State)
      → k.sends h s ≡ inverted f (k.sends g (inverted f s))
  pub flipped_formed : (n f : ℕ) (g h : Gate) → Formed k n g → k.flipped f g ≡ Some h → Formed k n h
  pub flipped_lines : (n f : ℕ) (g h : Gate) → Formed k n g → k.flipped f g ≡ Some h → FlippedLines k f g h
  -- with a control added on a line that it neither reads nor changes, a gate works when that control holds, else not at all
  pub controlled_does : (n l : ℕ) (v : Sign) (g : Gate) → Formed k n g → l < n → Idle k g l → (s : State)
      → k.sends (k.controlled l v g) s ≡ cond (beq (s l) (wanted v)) (k.sends g s) s
  pub controlled_formed : (n l : ℕ) (v : Sign) (g : Gate) → Formed k n g → l < n → Idle k g l → Formed k n (k.controlled l v g)
  pub controlled_lines : (n l : ℕ) (v : Sign) (g : Gate) → Formed k n g → l < n → Idle k g l → AddedLines k l v g (k.controlled l v g)
