use Rattle.std.proofs.Common.{ControlFlow, Continue, is_some, ◌≡◌, ◌<◌, ◌++◌, ◌∷◌, [], sym, refl, ap, ◌∙◌, length, arith}
use Rattle.std.specs.ControlFlow.{break_value}
use Rattle.search.specs.Keys.{key_size, number_limit, keyed}
use Rattle.search.specs.Policy.{scan}
use Rattle.search.specs.Prefixes.{FitsBranch, stands}
use Rattle.search.proofs.Covered.{SeenOf, split_next, seen_none, seen_with, seen_all, seen_end}
use Rattle.search.proofs.Numbers.{fits_next, with_room}
use Rattle.search.proofs.Rows.{listed_whole}
use Rattle.search.proofs.showing.Showing.+descend.Goals as goal
use Rattle.search.proofs.showing.Showing.+descend.Goals.{After-descend}

pub returns-then-is_last-clause-shows : goal.returns-then-is_last-clause-shows
returns-then-is_last-clause-shows g t c fits =
    c.visit.ensures.shows fits ∙ ap (scan _ _ _) (listed_whole (g.Q.Problem.test c.args.branch.now.problem.now) number_limit _ _ (c.if-is_last.ensures.whole fits))

pub loop-number-init : goal.loop-number-init
loop-number-init g t c = record { same = refl; split = refl; seen = λ fits room. seen_none g.P.Policy.rule g.Q.Problem.view g.Q.Problem.test c.args.branch.now.problem.now (keyed c.args.key.now) room _ }

-- once the keys under one more number were shown
next : (g : _) (t : _) (c : After-descend g t) → FitsBranch g.Q.Problem c.args.branch.now c.args.key.now c.args.note.now → (room : length (keyed c.args.key.now) < key_size)
    → (flow : ControlFlow (Unit {0}) (Unit {0})) → c.descend.result ≡ flow
    → SeenOf g.P.Policy.rule g.Q.Problem.view g.Q.Problem.test c.args.branch.now.problem.now (keyed c.args.key.now) room (stands g.P.Policy.kept (Continue tt) c.args.self.now) (c.loop-number.yielded ++ c.in-Some.number ∷ [])
    (stands g.P.Policy.kept flow c.descend.new.self)
next g t c fits room flow is =
    let v = c.in-Some.number in
    let put = c.with-longer.ensures in
    seen_with g.P.Policy.rule g.Q.Problem.view g.Q.Problem.test _ _ room _ _ _ (c.loop-number.invariant.seen fits room) _ _ put _ refl _
    (ap (λ (f : ControlFlow (Unit {0}) (Unit {0})). stands g.P.Policy.kept f c.descend.new.self) (sym is)
    ∙ c.descend.ensures.shows (fits_next (g.Q.Problem.sound _) (g.Q.Problem.started _) (g.Q.Problem.noted _) _ _ v _ _ _ fits (put ∙ with_room _ v room) c.note-deeper.ensures))

pub returns-in_err-descend-clause-shows : goal.returns-in_err-descend-clause-shows
returns-in_err-descend-clause-shows g t c fits =
    let room = c.if-is_last.ensures.room refl in
    let broke = c.from_residual.ensures in
    seen_end g.P.Policy.rule g.Q.Problem.view g.Q.Problem.test _ _ room _ _ (c.candidates.ensures fits) (omega arith) (c.if-is_last.ensures.whole fits) _ _
    (split_next _ _ _ _ _ c.loop-number.invariant.split c.in-Some.ensures.steps ∙ c.into_iter-number-iterator.ensures.into_iter_gives ∙ c.of-number-items.ensures)
    _ (next g t (goal.at.returns-in_err-descend-clause-shows g t c).After-descend fits room c.from_residual.result (c.in_err-descend.was ∙ sym broke))
    (ap (λ (f : ControlFlow (Unit {0}) (Unit {0})). is_some (break_value f)) broke)

pub loop-number-preserved : goal.loop-number-preserved
loop-number-preserved g t c = record {
  same = c.descend.ensures.same ∙ c.loop-number.invariant.same;
  split = split_next _ _ _ _ _ c.loop-number.invariant.split c.in-Some.ensures.steps;
  seen = λ fits room. next g t (goal.at.loop-number-preserved g t c).After-descend fits room (Continue tt) (c.in_ok-descend.was);
}

pub returns-clause-shows : goal.returns-clause-shows
returns-clause-shows g t c fits =
    let room = c.if-is_last.ensures.room refl in
    let inv = c.loop-number.invariant in
    seen_all g.P.Policy.rule g.Q.Problem.view g.Q.Problem.test _ _ room _ _ (c.candidates.ensures fits) (omega arith) (c.if-is_last.ensures.whole fits) _ _
    (inv.split ∙ c.into_iter-number-iterator.ensures.into_iter_gives ∙ c.of-number-items.ensures) _ (inv.seen fits room) c.in-None.ensures.steps.0
