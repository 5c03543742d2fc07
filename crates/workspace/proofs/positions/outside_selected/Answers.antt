use Rattle.std.proofs.Common.{◌+◌, ◌^◌, ◌<◌, get_or, sym, subst, arith}
use Rattle.gates.specs.Lines.{width}
use Rattle.workspace.proofs.Stepping.{Found, found_none, found_more, found_skip, found_all}
use Rattle.workspace.proofs.positions.outside_selected.Goals as goal
use Rattle.workspace.proofs.positions.outside_selected.Goals.{then-has_position, else-has_position}

pub loop-place-init : goal.loop-place-init
loop-place-init c = found_none c.args.groups.now c.args.selection

pub loop-place-preserved : goal.loop-place-preserved
loop-place-preserved c =
    let groups = c.args.groups.now in
    let selection = c.args.selection in
    let place = c.loop-place.place in
    let found = c.loop-place.selected in
    let fits : get_or groups place 0 < 2 ^ width = omega (arith, c.type_inv.groups place) in
    elim c.if-has_position.branch [
      | then-has_position w ↦
          subst (Found groups selection (place + 1)) (sym w.selected-is)
          (found_more groups selection place found c.loop-place-test.true c.loop-place.invariant fits w.if-has_position.ensures)
      | else-has_position w ↦
          subst (Found groups selection (place + 1)) (sym w.selected-is)
          (found_skip groups selection place found c.loop-place-test.true c.loop-place.invariant w.if-has_position.ensures)
    ]

pub returns : goal.returns
returns c =
    found_all c.args.groups.now c.args.selection c.loop-place.place c.loop-place.selected c.loop-place-test.false c.loop-place.invariant
