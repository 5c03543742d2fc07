use Rattle.std.proofs.Common.{ℕ, List, Option, subst, rules}
use Rattle.search.specs.Listing.{Chosen, found_key}
use Rattle.search.proofs.Choosing.{chosen_from, found_by_map}
use Rattle.search.proofs.walk.choose.Goals as goal

pub returns-clause-chosen : goal.returns-clause-chosen
returns-clause-chosen g c sound from =
    let q = g.Q.Problem in
    let s = c.args.problem.now in
    let decides = q.decides s sound in
    let all = c.search-lowest.ensures.searches c.new-showing.ensures.stands sound (λ v rest p. from v rest ((decides _).0 p)) in
    subst (λ (p : g.row.P.Denot). Chosen (q.occurring s) (q.view s) g.P.Policy.rule (found_key c.map.result) (g.P.Policy.kept p)) (search rules)
    (subst (λ (o : Option (List ℕ)). Chosen (q.occurring s) (q.view s) g.P.Policy.rule o (g.P.Policy.kept c.search-lowest.new.self.policy.now)) (found_by_map _ (λ key found p. search rules) _ _ c.map.ensures.cases)
    (chosen_from g.P.Policy.rule (q.view s) (q.occurring s) (q.test s) decides (q.formed s sound) g.met.P.Policy.takes_first _ _ _ all))
