use Rattle.std.proofs.Common.{◌-◌, ◌≤◌}
use Rattle.workspace.specs.Conditions.{Sound}
use Rattle.workspace.specs.Holdings.{condition_of}
use Rattle.workspace.proofs.SettlingTurns.{Stands}
use Rattle.workspace.proofs.workspace.Workspace.settle.Given as goal

-- so far as many sweeps as were made lead from the condition at the start to the one now, and nothing occurs before `from`
abbrev pub invariant-loop-found : goal.invariant-loop-found
invariant-loop-found g l =
    (l.replacements ≤ l.budget)
    × (Sound g.S.Kind.GateKind.means (condition_of g.S.Store.means l.initial.self.holdings)
    → Stands g.S.Kind.GateKind.means g.P.Policy.rule (condition_of g.S.Store.means l.initial.self.holdings) l.replacements l.saved l.from (condition_of g.S.Store.means l.self.holdings))

abbrev pub decreases-loop-found : goal.decreases-loop-found
decreases-loop-found g l = l.budget - l.replacements
