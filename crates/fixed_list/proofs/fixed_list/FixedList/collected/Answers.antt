use Rattle.std.proofs.Common.{ap, ◌∙◌, subst}
use Rattle.std.specs.Iterator.{Yields}
use Rattle.fixed_list.specs.Lists.{pushed}
use Rattle.fixed_list.proofs.Shifts.{pushed_first}
use Rattle.fixed_list.proofs.fixed_list.FixedList.collected.Goals as goal

pub loop-item-preserved : goal.loop-item-preserved
loop-item-preserved g c =
    c.push.ensures.leaves ∙ ap (λ xs. pushed g.row.N xs c.in-Some.item) c.loop-item.invariant ∙ pushed_first g.row.N c.loop-item.yielded c.in-Some.item

pub returns : goal.returns
returns g c =
    let steps = g.I.Iterator.next_gives in
    let run = subst (λ it. Yields steps it c.loop-item.yielded c.loop-item.item-iterator) c.into_iter-item-iterator.ensures.into_iter_gives c.loop-item.yielded_by in
    record { given = c.loop-item.yielded; all = (c.next.new.self, (c.loop-item.item-iterator, run, c.in-None.ensures.steps)); first = c.loop-item.invariant }
