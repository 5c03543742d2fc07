use Rattle.std.proofs.Common.{◌≡◌, ◌<◌, get_or, length, refl, ◌∙◌, subst, arith}
use Rattle.std.proofs.lemmas.List.{get_or-set_other, length-set}
use Rattle.fixed_list.proofs.Shifts.{turned_next, turned_all}
use Rattle.fixed_list.proofs.fixed_list.FixedList.turn_each.Goals as goal

pub loop-place-init : goal.loop-place-init
loop-place-init g c = record { many = refl; long = refl; turned = tt; left = λ j d l. refl }

pub loop-place-preserved : goal.loop-place-preserved
loop-place-preserved g c =
    let i = c.loop-place.place in
    let old = c.args.self.now in
    let items = c.loop-place.self.items in
    let x = c.index-self-place.result in
    let was : get_or items i x ≡ get_or old.items i x = c.loop-place.invariant.left i x (omega arith) in
    let inside : i < length old.items = omega (arith, c.loop-place-test.true) in
    record {
      many = c.loop-place.invariant.many;
      long = length-set items i c.turn.result ∙ c.loop-place.invariant.long;
      turned = turned_next _ old.items items i x c.turn.result inside (omega (arith, inside, c.loop-place.invariant.long)) c.loop-place.invariant.turned (subst (λ a. g.F.Fn.post c.args.turn (a, tt) c.turn.result) was c.turn.ensures);
      left = λ j d l. get_or-set_other items i j c.turn.result d (λ e. omega arith) ∙ c.loop-place.invariant.left j d (omega arith);
    }

pub returns : goal.returns
returns g c =
    let old = c.args.self.now in
    let new = c.loop-place.self in
    turned_all _ old.items new.items c.loop-place.place old.count new.count (omega (arith, c.loop-place-test.false)) c.loop-place.invariant.long c.loop-place.invariant.many c.loop-place.invariant.turned
