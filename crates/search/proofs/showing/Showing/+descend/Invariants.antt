use Rattle.std.proofs.Common.{Continue, ◌≡◌, ◌-◌, ◌<◌, ◌++◌, length}
use Rattle.search.specs.Keys.{key_size, keyed}
use Rattle.search.specs.Prefixes.{FitsBranch, stands}
use Rattle.search.proofs.Covered.{SeenOf}
use Rattle.search.proofs.showing.Showing.+descend.Given as goal

abbrev pub decreases-descend : goal.decreases-descend
decreases-descend g l = key_size - length (keyed l.key.now)

abbrev pub invariant-loop-number : goal.invariant-loop-number
invariant-loop-number g l =
    record {
      same : l.self.policy.ghost_name ≡ l.initial.self.policy.ghost_name;
      split : l.yielded ++ l.number-iterator ≡ l.initial.number-iterator;
      seen : FitsBranch g.Q.Problem l.branch l.key l.note → (room : length (keyed l.key) < key_size)
          → SeenOf g.P.Policy.rule g.Q.Problem.view g.Q.Problem.test l.branch.problem.now (keyed l.key) room (stands g.P.Policy.kept (Continue tt) l.initial.self) l.yielded (stands g.P.Policy.kept (Continue tt) l.self);
    }
