-- What a step of the search may rely on at a prefix, and where a policy stands that is shown keys.
use Rattle.std.specs.Prelude.{ℕ, List, is_some}
use Rattle.std.specs.ControlFlow.{break_value}
use Rattle.std.specs.declared.ops.ControlFlow.{ControlFlow}
use Rattle.search.specs.declared.branch.Branch.{Branch}
use Rattle.search.specs.declared.key.Key.{Key}
use Rattle.search.specs.declared.showing.Showing.{Showing}
use Rattle.search.specs.declared.walk.Problem.{Ghosts}
use Rattle.search.specs.Keys.{held}
use Rattle.search.specs.Listing.{FitsAt}
use Rattle.search.specs.Policy.{Standing, standing}

-- a step of the search may rely on the key and its note, in that branch
abbrev pub FitsBranch : {Q X Y : Type 0} → Ghosts Q X Y → Branch Q X Y → Key → Y → Type 0
FitsBranch problem branch key note = FitsAt problem.sound problem.started problem.noted branch.problem.now key branch.start.now note

-- where the policy stands; a break says that it closed
abbrev pub stands : {P : Type 0} → (P → List ℕ) → ControlFlow (Unit {0}) (Unit {0}) → Showing P → Standing (List ℕ)
stands kept flow showing = standing (is_some (break_value flow)) (kept showing.policy.now) (held showing.taken)
