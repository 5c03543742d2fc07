use Rattle.std.proofs.Common.{◌≡◌, Continue, sym, ◌∙◌}
use Rattle.search.specs.declared.policy.Reply.{Reply}
use Rattle.search.specs.declared.policy.Reply.TheVariants.{Leave, Take, Close}
use Rattle.search.specs.Keys.{keyed, held}
use Rattle.search.specs.Listing.{alone}
use Rattle.search.specs.Policy.{replied, scan}
use Rattle.search.specs.Prefixes.{FitsBranch, stands}
use Rattle.search.proofs.Steps.{visit_none, visit_one}
use Rattle.search.proofs.showing.Showing.visit.Goals as goal
use Rattle.search.proofs.showing.Showing.visit.Goals.{After-show}

pub returns-in_default-clause-shows : goal.returns-in_default-clause-shows
returns-in_default-clause-shows g c fits =
    let q = c.args.branch.now.problem.now in
    visit_none g.P.Policy.rule (g.Q.Problem.view q) (g.Q.Problem.test q) (keyed c.args.key.now) (g.P.Policy.kept c.args.self.now.policy.now) (held c.args.self.now.taken) (c.in_default.ensures fits)

-- where the policy stands after that reply
after_reply : (g : _) (c : After-show g) → FitsBranch g.Q.Problem c.args.branch.now c.args.key.now c.args.note.now → (r : Reply) → c.show.result ≡ r
    → replied r (g.P.Policy.kept c.show.new.self) (held c.args.self.now.taken) (keyed c.args.key.now)
    ≡ scan g.P.Policy.rule (g.Q.Problem.view c.args.branch.now.problem.now) (stands g.P.Policy.kept (Continue tt) c.args.self.now) (alone (g.Q.Problem.test c.args.branch.now.problem.now) (keyed c.args.key.now))
after_reply g c fits r said =
    let q = c.args.branch.now.problem.now in
    visit_one g.P.Policy.rule (g.Q.Problem.view q) (g.Q.Problem.test q) (keyed c.args.key.now) (g.P.Policy.kept c.args.self.now.policy.now) (held c.args.self.now.taken) r _ _ (c.in-Some.ensures fits)
    (sym said ∙ c.show.ensures.says) c.show.ensures.keeps

pub returns-in-Leave-clause-shows : goal.returns-in-Leave-clause-shows
returns-in-Leave-clause-shows g c fits = after_reply g (goal.at.returns-in-Leave-clause-shows g c).After-show fits Leave c.in-Leave.is

pub returns-in-Take-clause-shows : goal.returns-in-Take-clause-shows
returns-in-Take-clause-shows g c fits = after_reply g (goal.at.returns-in-Take-clause-shows g c).After-show fits Take c.in-Take.is

pub returns-in-Close-clause-shows : goal.returns-in-Close-clause-shows
returns-in-Close-clause-shows g c fits = after_reply g (goal.at.returns-in-Close-clause-shows g c).After-show fits Close c.in-Close.is
