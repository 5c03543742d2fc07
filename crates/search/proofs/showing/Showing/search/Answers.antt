use Rattle.std.proofs.Common.{Continue, is_some, Bool, true, false, ◌≡◌, ℕ, ◌+◌, ◌≤◌, List, [], sym, refl, ap, ◌∙◌, subst, arith}
use Rattle.std.specs.ControlFlow.{break_value}
use Rattle.search.specs.Keys.{number_limit, held, with_number}
use Rattle.search.specs.Listing.{Passes, StartsFrom}
use Rattle.search.specs.Policy.{Standing, standing, opening}
use Rattle.search.specs.Prefixes.{stands}
use Rattle.search.proofs.Choosing.{FoundBy, found_none, held_none, found_first, found_before, searched}
use Rattle.search.proofs.Numbers.{fits_first, left_less}
use Rattle.search.proofs.Steps.{Seen, seen_start, seen_skip, seen_more, seen_closed, seen_done, shown_same}
use Rattle.search.proofs.showing.Showing.search.Goals as goal
use Rattle.search.proofs.showing.Showing.search.Goals.{then-is_none, else-is_none, After-descend}

pub loop-place-init : goal.loop-place-init
loop-place-init g c = record {
  same = refl;
  seen = λ opens sound from. (
    opens ∙ seen_skip _ _ _ _ _ [] _ 0 _ _ (omega arith) (λ v _ l rest p. omega (arith, from v rest p)) (seen_start _ _ _ _ _ [] _),
    subst (FoundBy _ _) (sym (ap (λ (s : Standing (List ℕ)). s.taken) opens)) (found_none _ _ (λ v rest p. omega (arith, from v rest p))),
  );
}

-- once the keys with one more first number were shown
next : (g : _) (c : After-descend g) → stands g.P.Policy.kept (Continue tt) c.args.self.now ≡ opening g.P.Policy.rule → g.Q.Problem.sound c.args.problem.now → StartsFrom (Passes (g.Q.Problem.test c.args.problem.now)) c.args.from
    → (closed : Bool) → is_some (break_value c.descend.result) ≡ closed
    → Seen g.P.Policy.rule (g.Q.Problem.view c.args.problem.now) (g.Q.Problem.test c.args.problem.now) number_limit 23 [] (opening g.P.Policy.rule) (c.loop-place.place + 1)
    (standing closed (g.P.Policy.kept c.descend.new.self.policy.now) (held c.descend.new.self.taken))
    × FoundBy (g.Q.Problem.test c.args.problem.now) c.if-is_none.lowest (held c.descend.new.self.taken)
next g c opens sound from closed is =
    let first = c.loop-place.place in
    let q = c.args.problem.now in
    let before = c.loop-place.invariant.seen opens sound from in
    let named = c.with-key.ensures ∙ ap (λ (k : List ℕ). with_number k first) c.new.ensures in
    let less = left_less [] _ first named in
    let shown = shown_same g.P.Policy.rule g.Q.Problem.view g.Q.Problem.test q _ _ _ _ refl (c.descend.ensures.shows (fits_first _ _ _ _ first _ _ _ sound named (c.start-start.ensures sound) (c.blank-blank.ensures sound) c.note-note.ensures)) in
    let told = ap (λ (b : Bool). standing b (g.P.Policy.kept c.descend.new.self.policy.now) (held c.descend.new.self.taken)) (sym is) ∙ shown in
    let By : ℕ → Type 0 = λ n. FoundBy (g.Q.Problem.test q) n (held c.descend.new.self.taken) in (
      seen_more _ _ _ _ _ [] _ first _ before.0 _ named _ less _ told,
      elim c.if-is_none.branch [
        | then-is_none w ↦ subst By (sym w.lowest-is) (found_first _ _ _ number_limit 23 first _ g.met.P.Policy.takes_first (g.Q.Problem.formed q sound) before.0 (held_none _ w.if-is_none.ensures) _ _ named _ less shown)
        | else-is_none w ↦ subst By (sym w.lowest-is) (found_before _ _ _ _ w.if-is_none.ensures before.1)
      ],
    )

pub returns-then-is_break-clause-searches : goal.returns-then-is_break-clause-searches
returns-then-is_break-clause-searches g c opens sound from =
    let after = next g (goal.at.returns-then-is_break-clause-searches g c).After-descend opens sound from true (sym c.if-is_break.ensures) in
    let below : c.loop-place.place + 1 ≤ number_limit = omega arith in
    searched _ _ _ _ _ _ _ (seen_closed _ _ _ _ _ [] _ _ (g.Q.Problem.formed c.args.problem.now sound).some refl _ _ below refl after.0) after.1

pub loop-place-preserved : goal.loop-place-preserved
loop-place-preserved g c = record {
  same = c.descend.ensures.same ∙ c.loop-place.invariant.same;
  seen = λ opens sound from. next g (goal.at.loop-place-preserved g c).After-descend opens sound from false (sym c.if-is_break.ensures);
}

pub returns-clause-searches : goal.returns-clause-searches
returns-clause-searches g c opens sound from =
    let both = c.loop-place.invariant.seen opens sound from in
    let most : c.loop-place.place ≤ number_limit = omega arith in
    searched _ _ _ _ _ _ _
    (seen_done _ _ _ _ _ [] _ _ (g.Q.Problem.formed c.args.problem.now sound).some refl c.loop-place.place _ most
    (λ v l _ rest p. omega (arith, c.starts-end.ensures.covers sound v rest p, c.loop-place-test.false)) both.0)
    both.1
