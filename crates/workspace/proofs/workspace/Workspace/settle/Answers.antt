use Rattle.std.proofs.Common.{min, Some, None, sym, refl, ap, ◌∙◌, arith}
use Rattle.std.proofs.lemmas.Bool.{le-leb, lt-leb}
use Rattle.search.specs.Keys.{keyed}
use Rattle.search.specs.Listing.{Chosen}
use Rattle.workspace.specs.Conditions.{Sound}
use Rattle.workspace.specs.Holdings.{condition_of}
use Rattle.workspace.specs.Matching.{OccursIn, shown_of}
use Rattle.workspace.proofs.SettlingTurns.{stands_more}
use Rattle.workspace.proofs.Sweeping.{unshortened}
use Rattle.workspace.proofs.Swept.{ready, from_none, kept_after, none_occurs}
use Rattle.workspace.proofs.workspace.Workspace.settle.Goals as goal

pub loop-found-init : goal.loop-found-init
loop-found-init g c =
    let k = g.S.Kind.GateKind.means in
    let before = condition_of g.S.Store.means c.args.self.now.holdings in
    (omega arith, λ sound. record { sweeps = (refl, refl); shortened = unshortened k before sound; below = from_none (OccursIn k before) })

pub returns-then-budget-gt-MOST_BUDGET : goal.returns-then-budget-gt-MOST_BUDGET
returns-then-budget-gt-MOST_BUDGET g c =
    let k = g.S.Kind.GateKind.means in
    let before = condition_of g.S.Store.means c.args.self.now.holdings in
    record {
      refused = refl;
      promised = (sym (lt-leb c.args.budget 4096 c.if-budget-gt-MOST_BUDGET.true), λ sound. record { outcome = refl; shortened = unshortened k before sound });
      policy = λ sound. refl;
    }

pub returns-then-replacements-budget : goal.returns-then-replacements-budget
returns-then-replacements-budget g c =
    let k = g.S.Kind.GateKind.means in
    let rule = g.P.Policy.rule in
    let h = c.loop-found.self.holdings in
    let before = condition_of g.S.Store.means c.args.self.now.holdings in
    let here = condition_of g.S.Store.means h in
    let kept = g.P.Policy.kept c.choose.new.policy in
    let key = keyed c.in-Some.found.key in
    let at = c.loop-found.invariant.1 in
    let all : Sound k before → Chosen (OccursIn k here) (shown_of here.shelf) rule (Some key) kept =
    λ sound. c.in-Some.ensures.chosen (ready k g.S.Store.means g.S.Store.bounded h (at sound).shortened.sound) (at sound).below in
    record {
      refused = tt;
      promised = (
        sym (le-leb c.args.budget 4096 (omega arith)),
        λ sound. record {
          outcome = record { sweeps = (at sound).sweeps; within = c.loop-found.invariant.0; ends = ((key, (all sound).occurs key refl), c.if-replacements-budget.true) };
          shortened = (at sound).shortened;
        },
      );
      policy = λ sound. kept_after k rule here kept _ (all sound);
    }

pub loop-found-preserved : goal.loop-found-preserved
loop-found-preserved g c =
    let k = g.S.Kind.GateKind.means in
    let rule = g.P.Policy.rule in
    let h = c.loop-found.self.holdings in
    let before = condition_of g.S.Store.means c.args.self.now.holdings in
    let here = condition_of g.S.Store.means h in
    let now = condition_of g.S.Store.means c.replace-made.new.self in
    let kept = g.P.Policy.kept c.choose.new.policy in
    let key = keyed c.in-Some.found.key in
    let at = c.loop-found.invariant.1 in
    let searched = λ (sound : Sound k before). ready k g.S.Store.means g.S.Store.bounded h (at sound).shortened.sound in
    let all : Sound k before → Chosen (OccursIn k here) (shown_of here.shelf) rule (Some key) kept = λ sound. c.in-Some.ensures.chosen (searched sound) (at sound).below in
    let bounded = g.S.Store.bounded c.args.self.now.holdings.store in (
      omega (arith, c.loop-found.invariant.0),
      λ sound.
          stands_more k g.met.S.Kind.GateKind.lawful rule before here now c.loop-found.replacements c.loop-found.saved c.loop-found.from key c.replace-made.result kept c.in-Some.found.lowest _ _ _
          (omega (arith, bounded.fits, bounded.small)) c.saturating_add-saved.ensures (c.min-from.ensures ∙ ap (min c.in-Some.found.lowest) c.saturating_sub.ensures)
          (at sound) (all sound) (c.in-Some.ensures.lowest (searched sound) (at sound).below) (c.replace-made.ensures (at sound).shortened.sound ((all sound).occurs key refl)),
    )

pub returns : goal.returns
returns g c =
    let k = g.S.Kind.GateKind.means in
    let rule = g.P.Policy.rule in
    let h = c.loop-found.self.holdings in
    let before = condition_of g.S.Store.means c.args.self.now.holdings in
    let here = condition_of g.S.Store.means h in
    let kept = g.P.Policy.kept c.choose.new.policy in
    let at = c.loop-found.invariant.1 in
    let all : Sound k before → Chosen (OccursIn k here) (shown_of here.shelf) rule None kept =
    λ sound. c.in_default.ensures.chosen (ready k g.S.Store.means g.S.Store.bounded h (at sound).shortened.sound) (at sound).below in
    record {
      refused = tt;
      promised = (
        sym (le-leb c.args.budget 4096 (omega arith)),
        λ sound. record {
          outcome = record { sweeps = (at sound).sweeps; within = c.loop-found.invariant.0; ends = none_occurs k rule here kept (all sound) };
          shortened = (at sound).shortened;
        },
      );
      policy = λ sound. kept_after k rule here kept _ (all sound);
    }
