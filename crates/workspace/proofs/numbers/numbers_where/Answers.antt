use Rattle.std.proofs.Common.{◌+◌, sym, ◌∙◌, subst}
use Rattle.workspace.proofs.DistanceSets.{Below, below_none, below_more, below_skip, below_all}
use Rattle.workspace.proofs.numbers.numbers_where.Goals as goal
use Rattle.workspace.proofs.numbers.numbers_where.Goals.{then-test, else-test}

pub loop-number-init : goal.loop-number-init
loop-number-init g c p answers = below_none p

pub loop-number-preserved : goal.loop-number-preserved
loop-number-preserved g c p answers =
    let number = c.loop-number.number in
    let before = c.loop-number.invariant p answers in
    let says = sym (answers number c.loop-number-test.true c.test.result c.test.ensures) in
    elim c.if-test.branch [
      | then-test w ↦
          subst (Below p (number + 1)) (sym w.set-is) (below_more p number c.loop-number.set w.with_number-set.result before (says ∙ w.if-test.true) w.with_number-set.ensures)
      | else-test w ↦ subst (Below p (number + 1)) (sym w.set-is) (below_skip p number c.loop-number.set before (says ∙ w.if-test.false))
    ]

pub returns : goal.returns
returns g c p answers =
    below_all p c.loop-number.number c.args.count c.loop-number.set c.loop-number-test.false c.loop-number.auto.number-end (c.loop-number.invariant p answers)
