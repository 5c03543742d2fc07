use Rattle.std.proofs.Common.{◌≡◌, take, ap, ◌-◌, ◌∙◌, arith}
use Rattle.std.proofs.lemmas.List.{length-take, take_min}
use Rattle.fixed_list.specs.Lists.{contents, removed}
use Rattle.fixed_list.proofs.Shifts.{shifted}
use Rattle.fixed_list.proofs.fixed_list.FixedList.remove.Goals as goal

pub returns-clause-leaves : goal.returns-clause-leaves
returns-clause-leaves g c =
    let s = c.args.self.now in
    let count = c.len-count.result in
    let counted : take count s.items ≡ contents s = ap (λ n. take n s.items) (c.len-count.ensures.is ∙ length-take s.count s.items) ∙ take_min s.count s.items in
    ap (take (count - 1)) c.copy_within.ensures.after
    ∙ shifted s.items count c.args.place (omega (arith, c.if-place-count.false)) (omega (arith, c.len-count.ensures.is, length-take s.count s.items))
    ∙ ap (λ items. removed items c.args.place) counted
