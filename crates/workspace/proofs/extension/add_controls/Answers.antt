use Rattle.std.proofs.Common.{◌≡◌, Some, None, Ok, sym, ap, ◌∙◌}
use Rattle.fixed_list.specs.declared.fixed_list.FixedList.{FixedList}
use Rattle.fixed_list.specs.Lists.{contents}
use Rattle.workspace.specs.Occurrences.{asks, gathered}
use Rattle.workspace.specs.declared.posed.Member.{Member}
use Rattle.workspace.specs.Extensions.{extended_by}
use Rattle.workspace.specs.Posing.{placed_of}
use Rattle.workspace.proofs.Extends.{posed_refused, by_none, by_answer, by_refused}
use Rattle.workspace.proofs.extension.add_controls.Goals as goal
use Rattle.workspace.proofs.extension.add_controls.Goals.{in-Some, in_default}

pub loop-line-init : goal.loop-line-init
loop-line-init g c = by_none g.K.GateKind.means c.args.asking.now.groups.now (placed_of (contents c.args.turned.now)) (asks c.args.asking.now.table.now c.args.asking.now.groups.now (placed_of c.args.asking.now.chosen.now))

pub returns-in_err-addition : goal.returns-in_err-addition
returns-in_err-addition g c =
    let xs = placed_of (contents c.args.turned.now) in
    let asking = asks c.args.asking.now.table.now c.args.asking.now.groups.now (placed_of c.args.asking.now.chosen.now) in
    let refused : None ≡ extended_by g.K.GateKind.means c.args.asking.now.groups.now xs (gathered asking c.args.lines) =
    by_refused g.K.GateKind.means c.args.asking.now.groups.now xs asking c.loop-line.line c.args.lines _ c.loop-line-test.true c.in_err-addition.ensures in
    posed_refused c.from_residual.result c.from_residual.ensures.0 ∙ refused

pub loop-line-preserved : goal.loop-line-preserved
loop-line-preserved g c =
    let k = g.K.GateKind.means in
    let groups = c.args.asking.now.groups.now in
    let xs = placed_of (contents c.args.turned.now) in
    let asking = asks c.args.asking.now.table.now groups (placed_of c.args.asking.now.chosen.now) in
    let line = c.loop-line.line in
    let next = by_answer k groups xs asking line (placed_of (contents c.loop-line.extended)) (placed_of (contents c.match-branch-2.extended)) in
    elim c.match-branch-2.branch [
      | in-Some w ↦ next (Some w.in-Some.addition) (ap Ok (sym w.in-Some.is) ∙ c.in_ok-addition.ensures) (ap (λ (p : FixedList Member 8). placed_of (contents p)) w.extended-is ∙ w.control_group-extended.ensures) c.loop-line.invariant
      | in_default w ↦ next None (ap Ok (sym w.in_default.is) ∙ c.in_ok-addition.ensures) (ap (λ (p : FixedList Member 8). placed_of (contents p)) w.extended-is) c.loop-line.invariant
    ]
