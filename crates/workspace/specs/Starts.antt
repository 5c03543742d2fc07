-- What is known of a frame: which gates block which, and in which role each line is.
use Rattle.std.specs.Prelude.{◌≡◌, ℕ, ◌<◌, Bool, not, ◌&&◌, ◌||◌, List, length, nat_lt, slice_index, slice_index_or}
use Rattle.std.specs.Bool.{beq}
use Rattle.gates.specs.declared.gate.Gate.{Gate}
use Rattle.gates.specs.Lines.{bit, every_below}
use Rattle.gates.specs.Controls.{gate}
use Rattle.gates.specs.Kinds.{KindMeaning}
use Rattle.workspace.specs.declared.role.RoleSets.{RoleSets}

-- the numbers below 64 in the set are those of which P holds
abbrev pub IsSet : ℕ → (ℕ → Bool) → Type 0
IsSet set P = (i : ℕ) → i < 64 → bit set i ≡ P i

-- of each number below the count a test, by what it may answer, answers what p says
abbrev pub Answering : (ℕ → Bool → Type 0) → ℕ → (ℕ → Bool) → Type 0
Answering answers count p = (i : ℕ) → i < count → (b : Bool) → answers i b → b ≡ p i

-- all numbers below 64 in the set are in the other
abbrev pub within : ℕ → ℕ → Bool
within set other = every_below 64 (λ i. bit other i || not (bit set i))

-- the gate at this distance from the first
abbrev pub at_distance : List Gate → ℕ → Gate
at_distance frame d = slice_index_or frame d (gate 0 0 0 0)

-- the gate at distance e is before the one at distance d, and the two do not interchange
abbrev pub blocks : KindMeaning → List Gate → ℕ → ℕ → Bool
blocks k frame d e = nat_lt e d && not (k.free (at_distance frame e) (at_distance frame d))

-- each gate before the one at distance d is chosen or interchanges with it
abbrev pub movable : KindMeaning → List Gate → ℕ → ℕ → Bool
movable k frame chosen d = every_below d (λ e. bit chosen e || k.free (at_distance frame e) (at_distance frame d))

-- what a line can be to a gate
pub data Role : Type 0 where
  Positive : Role
  Negative : Role
  Target : Role

-- the lines that have the role in the gate
abbrev pub lines_in_lem : KindMeaning → Role → Gate → ℕ
lines_in_lem k Positive g = g.positive
lines_in_lem k Negative g = g.negative
lines_in_lem k Target g = k.targets g

-- distance d is one of so many, and line x has the role in the gate there
abbrev pub has_role_at : KindMeaning → Role → List Gate → ℕ → ℕ → ℕ → Bool
has_role_at k role frame count x d = nat_lt d count && bit (lines_in_lem k role (at_distance frame d)) x

-- line x of gate w has the roles that line i of gate t has
abbrev pub same_role : KindMeaning → Gate → ℕ → Gate → ℕ → Bool
same_role k t i w x = beq (bit w.positive x) (bit t.positive i) && (beq (bit w.negative x) (bit t.negative i) && beq (bit (k.targets w) x) (bit (k.targets t) i))

-- the sets have all distances of a frame, and those at which line x has each role
pub record HasRoles (k : KindMeaning) (frame : List Gate) (x : ℕ) (sets : RoleSets) : Type 0 where
  pub all : IsSet sets.all (λ d. nat_lt d (length frame))
  pub positive : IsSet sets.positive (has_role_at k Positive frame (length frame) x)
  pub negative : IsSet sets.negative (has_role_at k Negative frame (length frame) x)
  pub targets : IsSet sets.targets (has_role_at k Target frame (length frame) x)

-- what a read past the sets of all lines gives
abbrev pub no_roles : RoleSets
no_roles = record { all = 0; positive = 0; negative = 0; targets = 0 }

-- what is known of a frame: the blockers of each gate, and the distances at which each line has each role
pub record Known (k : KindMeaning) (frame : List Gate) (sets : List ℕ) (lines : List RoleSets) : Type 0 where
  pub blockers : (d : ℕ) → d < length frame → IsSet (slice_index sets d) (blocks k frame d)
  pub roles : (x : ℕ) → x < 32 → HasRoles k frame x (slice_index_or lines x no_roles)
