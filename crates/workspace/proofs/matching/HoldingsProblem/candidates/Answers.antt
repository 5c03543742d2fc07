use Rattle.std.proofs.Common.{◌+◌, ◌-◌, ◌≤◌, length, ◌∙◌, arith}
use Rattle.std.proofs.lemmas.Bool.{lt-ltb}
use Rattle.fixed_list.specs.Lists.{contents}
use Rattle.search.specs.Keys.{keyed}
use Rattle.workspace.specs.Holdings.{condition_of}
use Rattle.workspace.specs.Proposals.{template_of}
use Rattle.workspace.proofs.KeyLevels.{next_of}
use Rattle.workspace.proofs.KeyNexts.{next_number, template_is, unlisted, pose_covers}
use Rattle.workspace.proofs.KeyCandidates.{line_in_set, distance_in_set}
use Rattle.workspace.proofs.matching.HoldingsProblem.candidates.Goals as goal

pub returns-then-len-eq1 : goal.returns-then-len-eq1
returns-then-len-eq1 g c fits v rest e =
    let k = g.S.Kind.GateKind.means in
    let held = condition_of g.S.Store.means c.args.self.now in
    let key = keyed c.args.key.now in
    let below = next_number k held fits.sound.sound key v (next_of k held key v rest e) (omega arith) in
    c.numbers_below.ensures v (omega (arith, below, c.count.ensures.is, c.count.ensures.few)) ∙ lt-ltb v c.count.result (omega (arith, below, c.count.ensures.is))

pub returns-in_default : goal.returns-in_default
returns-in_default g c fits v rest e =
    absurd (unlisted g.S.Kind.GateKind.means (condition_of g.S.Store.means c.args.self.now) fits.sound.sound (keyed c.args.key.now) (omega (arith, fits.some)) c.in_default.ensures v rest e)

pub returns-in-None : goal.returns-in-None
returns-in-None g c fits v rest e =
    let k = g.S.Kind.GateKind.means in
    let held = condition_of g.S.Store.means c.args.self.now in
    let key = keyed c.args.key.now in
    let n = next_of k held key v rest e in
    let t = template_of c.in-Some.template.now in
    let two : 2 ≤ length key = omega (arith, fits.some) in
    let long = c.len-in-None.ensures.is in
    let r = c.next_pose.ensures in
    pose_covers k held fits.sound.sound key v n t c.next_pose.result (template_is k held key n.o n.begun two t c.in-Some.ensures.1) two (omega (arith, c.in-None.ensures))
    (λ q. r.shares (long ∙ q)) (λ q. r.directions (long ∙ q)) (λ q. r.rotations (long ∙ q)) (λ q. r.flips (long ∙ q))

pub returns-in-Some-checked_sub : goal.returns-in-Some-checked_sub
returns-in-Some-checked_sub g c fits v rest e =
    let k = g.S.Kind.GateKind.means in
    let held = condition_of g.S.Store.means c.args.self.now in
    let key = keyed c.args.key.now in
    line_in_set k held g.met.S.Kind.GateKind.lawful fits.sound.sound key (omega arith) c.args.note.now fits.whole (template_of c.in-Some.template.now) c.in-Some.ensures.1
    (contents c.args.start.now.frame) fits.first.frame v (next_of k held key v rest e) c.next_lines.result
    c.in-Some-checked_sub.line c.named_places.result c.lines-in-Some-checked_sub.result (omega arith) (omega arith) c.named_places.ensures c.lines-in-Some-checked_sub.ensures
    (omega (arith, c.lines-in-Some-checked_sub.ensures, (g.S.Store.bounded c.args.self.now.store).few_lines))
    (c.next_lines.ensures (omega (arith, c.lines-in-Some-checked_sub.ensures, (g.S.Store.bounded c.args.self.now.store).few_lines)))

pub returns-in-Some-2 : goal.returns-in-Some-2
returns-in-Some-2 g c fits v rest e =
    let k = g.S.Kind.GateKind.means in
    let held = condition_of g.S.Store.means c.args.self.now in
    let key = keyed c.args.key.now in
    let l = c.from-lines.result in
    distance_in_set k held g.met.S.Kind.GateKind.lawful fits.sound.sound key (omega arith) c.args.note.now fits.whole (template_of c.in-Some.template.now) c.in-Some.ensures.1
    (contents c.args.start.now.frame) fits.first.frame v (next_of k held key v rest e) c.next_places.result
    l (length key - (6 + l)) c.last_distance-last.result (c.in-Some-checked_sub.line - l + 1) (c.from-lines.ensures ∙ c.lines.ensures) (omega arith) c.last_distance-last.ensures (omega arith) c.next_places.ensures
