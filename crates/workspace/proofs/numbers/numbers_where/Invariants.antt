use Rattle.std.proofs.Common.{ℕ, Bool}
use Rattle.workspace.specs.Starts.{Answering}
use Rattle.workspace.proofs.DistanceSets.{Below}
use Rattle.workspace.proofs.numbers.numbers_where.Given as goal

-- the numbers so far
abbrev pub invariant-loop-number : goal.invariant-loop-number
invariant-loop-number g l = (p : ℕ → Bool) → Answering (goal.F-post g l.test) l.count p → Below p l.number l.set
