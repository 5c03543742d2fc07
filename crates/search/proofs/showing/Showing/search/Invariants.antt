use Rattle.std.proofs.Common.{Continue, ◌≡◌, []}
use Rattle.search.specs.Keys.{number_limit, held}
use Rattle.search.specs.Listing.{Passes, StartsFrom}
use Rattle.search.specs.Policy.{opening}
use Rattle.search.specs.Prefixes.{stands}
use Rattle.search.proofs.Choosing.{FoundBy}
use Rattle.search.proofs.Steps.{Seen}
use Rattle.search.proofs.showing.Showing.search.Given as goal

abbrev pub invariant-loop-place : goal.invariant-loop-place
invariant-loop-place g l =
    let test = g.Q.Problem.test l.problem in
    record {
      same : l.self.policy.ghost_name ≡ l.initial.self.policy.ghost_name;
      seen : stands g.P.Policy.kept (Continue tt) l.initial.self ≡ opening g.P.Policy.rule → g.Q.Problem.sound l.problem → StartsFrom (Passes test) l.from
          → Seen g.P.Policy.rule (g.Q.Problem.view l.problem) test number_limit 23 [] (opening g.P.Policy.rule) l.place (stands g.P.Policy.kept (Continue tt) l.self)
          × FoundBy test l.lowest (held l.self.taken);
    }
