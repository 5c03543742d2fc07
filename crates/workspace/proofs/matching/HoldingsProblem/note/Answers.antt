use Rattle.std.proofs.Common.{ℕ, ◌-◌, eqb, ap, ◌∙◌, arith}
use Rattle.fixed_list.specs.Lists.{contents}
use Rattle.search.specs.Keys.{keyed}
use Rattle.workspace.specs.Holdings.{condition_of}
use Rattle.workspace.specs.Proposals.{template_of}
use Rattle.workspace.proofs.KeyNexts.{template_is}
use Rattle.workspace.proofs.KeyNotes.{line_noted, line_read, place_noted, posed_fits}
use Rattle.workspace.proofs.matching.HoldingsProblem.note.Goals as goal

pub returns-then-behind-eq0 : goal.returns-then-behind-eq0
returns-then-behind-eq0 g c sound prefix v is started above six o b =
    let k = g.S.Kind.GateKind.means in
    let held = condition_of g.S.Store.means c.args.self.now in
    let key = keyed c.args.key.now in
    let t = template_of c.in-Some.template.now in
    posed_fits k held sound.sound key prefix v is o b c.posed_note.result _ c.from.result c.from-then-behind-eq0.result t (omega arith)
    (template_is k held key o b (omega arith) t c.in-Some.ensures.1)
    (ap (λ (x : ℕ). eqb x 1) c.at.ensures) (c.from.ensures ∙ c.at-then-behind-eq0.ensures) (c.from-then-behind-eq0.ensures ∙ c.at-then-behind-eq0-2.ensures) c.posed_note.ensures.poses c.posed_note.ensures.reaches c.posed_note.ensures.chooses

pub returns-then-line-from : goal.returns-then-line-from
returns-then-line-from g c sound prefix v is started above six o b =
    place_noted g.S.Kind.GateKind.means (condition_of g.S.Store.means c.args.self.now) sound.sound (keyed c.args.key.now) prefix v is o b
    (template_of c.in-Some.template.now) c.in-Some.ensures.1 (c.in-Some-checked_sub.behind - 1) c.from-last.result (omega arith) (c.from-last.ensures ∙ c.at-2.ensures)
    g.met.S.Kind.GateKind.lawful c.args.above.now c.with_distance.result above (omega arith) c.with_distance.ensures.keeps c.with_distance.ensures.chooses

pub returns-in_default-try_from : goal.returns-in_default-try_from
returns-in_default-try_from g c sound prefix v is started above six o b =
    let i = c.in-Some-checked_sub.behind - 1 in
    let below = line_read g.S.Kind.GateKind.means (condition_of g.S.Store.means c.args.self.now) sound.sound (keyed c.args.key.now) prefix v is o b
    (template_of c.in-Some.template.now) c.in-Some.ensures.1 i c.from-last.result (omega arith) (c.from-last.ensures ∙ c.at-2.ensures) (omega arith) in
    absurd (let z : ⊥ = omega (arith, below, c.in_default-try_from.ensures, (g.S.Store.bounded c.args.self.now.store).few_lines) in z)

pub returns : goal.returns
returns g c sound prefix v is started above six o b =
    line_noted g.S.Kind.GateKind.means (condition_of g.S.Store.means c.args.self.now) sound.sound (keyed c.args.key.now) prefix v is o b
    (template_of c.in-Some.template.now) c.in-Some.ensures.1 (c.in-Some-checked_sub.behind - 1) c.from-last.result (omega arith) (c.from-last.ensures ∙ c.at-2.ensures)
    g.met.S.Kind.GateKind.lawful c.args.above.now c.narrow.new.self above (omega arith) c.in-Ok.x.number c.in-Ok.ensures (contents c.args.start.now.frame) started.frame
    c.narrow.ensures.poses c.narrow.ensures.chooses c.narrow.ensures.reaches
