use Rattle.std.proofs.Common.{sym, ap, ◌∙◌, length, arith}
use Rattle.search.specs.Sets.{numbers_in}
use Rattle.search.proofs.NumberSets.{lowest_first, none_in}
use Rattle.search.proofs.candidates.NumbersIterator.next.Goals as goal

pub returns-then-self-eq0-clause-steps : goal.returns-then-self-eq0-clause-steps
returns-then-self-eq0-clause-steps c = let none = sym c.self.view_is ∙ ap numbers_in c.if-self-eq0.true ∙ none_in in (none, none)

pub returns-clause-steps : goal.returns-clause-steps
returns-clause-steps c = sym c.self.view_is ∙ lowest_first c.self.inside.rest (omega arith) (omega arith)

pub returns-clause-goes : goal.returns-clause-goes
returns-clause-goes c =
    let first = sym c.self.view_is ∙ lowest_first c.self.inside.rest (omega arith) (omega arith) in
    record { on = λ _. (tt, tt, omega (arith, ap length first)); keeps = tt; rests = λ _. tt }
