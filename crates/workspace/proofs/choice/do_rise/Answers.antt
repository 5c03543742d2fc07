use Rattle.std.proofs.Common.{ltb, rules}
use Rattle.std.proofs.lemmas.List.Sorted.{answers_always}
use Rattle.workspace.proofs.Choosing.{rises}
use Rattle.workspace.proofs.choice.do_rise.Goals as goal

pub returns : goal.returns
returns c = rises c.args.numbers.now c.is_sorted_by.result (c.is_sorted_by.ensures.cases (λ x y. ltb x y) (answers_always _ _ _ (λ f a r f' k. search rules)))
