use Rattle.std.proofs.Common.{◌+◌, take, sym, subst}
use Rattle.std.specs.List.{AllZip}
use Rattle.fixed_list.specs.Lists.{contents}
use Rattle.fixed_list.proofs.Shifts.{turned_more}
use Rattle.fixed_list.proofs.fixed_list.FixedList.map.Goals as goal

pub loop-item-preserved : goal.loop-item-preserved
loop-item-preserved g c =
    let xs = c.as_slice-item-items.result.now in
    let x = c.item-item.result in
    let turned = subst (λ a. g.F.Fn.post c.args.turn (a, tt) c.turn.result) c.item-item.is c.turn.ensures in
    subst (AllZip _ (take (c.loop-item.item-index + 1) xs)) (sym c.push.ensures.leaves)
    (turned_more _ xs (contents c.loop-item.turned) c.loop-item.item-index g.row.N x c.turn.result c.loop-item-test.true c.as_slice-item-items.ensures.few c.loop-item.invariant turned)
