use Rattle.std.proofs.Common.{◌≡◌, Some, None, Option, sym, refl, subst, rules}
use Rattle.search.specs.Keys.{keyed}
use Rattle.search.specs.Listing.{Chosen}
use Rattle.workspace.specs.Conditions.{Sound}
use Rattle.workspace.specs.Holdings.{condition_of}
use Rattle.workspace.specs.declared.replacement.Replacement.{Replacement}
use Rattle.workspace.specs.Promises.{SweepPromise}
use Rattle.workspace.specs.Matching.{OccursIn, shown_of}
use Rattle.workspace.proofs.Swept.{ready, from_none, kept_after, swept_none, swept_some}
use Rattle.workspace.proofs.workspace.Workspace.sweep.Goals as goal

pub returns-in_err-found : goal.returns-in_err-found
returns-in_err-found g c =
    let k = g.S.Kind.GateKind.means in
    let rule = g.P.Policy.rule in
    let h = c.args.self.now.holdings in
    let before = condition_of g.S.Store.means h in
    let kept = g.P.Policy.kept c.choose.new.policy in
    let all : Sound k before → Chosen (OccursIn k before) (shown_of before.shelf) rule None kept = λ sound. c.in_err-found.ensures.chosen (ready k g.S.Store.means g.S.Store.bounded h sound) (from_none (OccursIn k before)) in
    let none : c.from_residual.result ≡ None = search rules in
    record { promised = λ sound. subst (λ (r : Option Replacement). SweepPromise k rule before r before) (sym none) (swept_none k rule before kept sound (all sound)); policy = λ sound. kept_after k rule before kept _ (all sound) }

pub returns : goal.returns
returns g c =
    let k = g.S.Kind.GateKind.means in
    let rule = g.P.Policy.rule in
    let h = c.args.self.now.holdings in
    let before = condition_of g.S.Store.means h in
    let kept = g.P.Policy.kept c.choose.new.policy in
    let key = keyed c.in_ok-found.found.key in
    let all : Sound k before → Chosen (OccursIn k before) (shown_of before.shelf) rule (Some key) kept = λ sound. c.in_ok-found.ensures.chosen (ready k g.S.Store.means g.S.Store.bounded h sound) (from_none (OccursIn k before)) in
    record {
      promised = λ sound. swept_some k rule before kept g.met.S.Kind.GateKind.lawful key c.replace.result (condition_of g.S.Store.means c.replace.new.self) sound (all sound) (c.replace.ensures sound ((all sound).occurs key refl));
      policy = λ sound. kept_after k rule before kept _ (all sound);
    }
