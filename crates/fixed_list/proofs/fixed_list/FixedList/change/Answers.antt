use Rattle.std.proofs.Common.{◌<◌, ◌∙◌, refl, sym, arith, length-take}
use Rattle.std.proofs.lemmas.List.{get_or-take}
use Rattle.std.proofs.Math.Seq.{take-set-lt}
use Rattle.fixed_list.proofs.fixed_list.FixedList.change.Goals as goal

pub returns-then-place-len-clause-there : goal.returns-then-place-len-clause-there
returns-then-place-len-clause-there g c there =
    let s = c.args.self.now in
    let x = c.index-self-place.result in
    let l : c.args.place < s.count = omega (arith, there, length-take s.count s.items) in
    record {
      item = x;
      item' = c.change.new.arg2;
      was = get_or-take s.count s.items c.args.place x l ∙ sym c.index-self-place.is;
      turned = record { shown = _; shows = sym c.index-self-place.is; left = _; met = c.change.ensures; leaves = refl };
      is = take-set-lt s.count s.items c.args.place c.change.new.arg2 l;
    }
