use Rattle.std.proofs.Common.{◌≡◌, ℕ, ◌+◌, Bool, true, cond, List, [], length, take, set, sym, ap, ◌∙◌, subst, ap₂, arith, refl}
use Rattle.stores.specs.Mounts.{rearranges, inverse_of}
use Rattle.stores.proofs.Rearranging.{Placed, none_rearranged, sized, taken, line_below, placed_none, placed_more, placed_all, back_taken}
use Rattle.stores.proofs.rearrangement.Rearrangement.new.Goals as goal

pub invariant_of-result : goal.invariant_of-result
invariant_of-result c = record {
  sound = subst (λ (t : List ℕ). rearranges (length t) t ≡ true) (sym c.new-none.ensures) none_rearranged;
  inverse = c.new-none.ensures ∙ sym (ap (λ (t : List ℕ). inverse_of (length t) t) c.new-none.ensures);
}

pub bounds-places-from : goal.bounds-places-from
bounds-places-from c =
    let t = c.args.table.now in
    let is = c.if-not-is_rearrangement.ensures in
    omega (arith, c.from.ensures, line_below c.args.lines t is c.loop-place.place c.loop-place-test.true, (sized c.args.lines t is).1)

pub loop-place-init : goal.loop-place-init
loop-place-init c = placed_none c.args.lines c.args.table.now c.if-not-is_rearrangement.ensures _ refl

pub loop-place-preserved : goal.loop-place-preserved
loop-place-preserved c =
    let t = c.args.table.now in
    let n = c.args.lines in
    let i = c.loop-place.place in
    let places = c.loop-place.places in
    subst (λ (x : ℕ). Placed n t (i + 1) (set places x i)) (sym c.from.ensures)
    (placed_more n t c.if-not-is_rearrangement.ensures i places c.loop-place-test.true c.loop-place.invariant)

pub invariant_of-result-2 : goal.invariant_of-result-2
invariant_of-result-2 c =
    let t = c.args.table.now in
    let n = c.args.lines in
    let is = c.if-not-is_rearrangement.ensures in
    let new = c.of-new.ensures ∙ taken n t is in
    let size = sized n t is in
    let places = c.loop-place.places in
    let kept = c.of-old.ensures ∙ ap (λ (m : ℕ). take 32 (take m places)) size.0 ∙ ap (take 32) (placed_all n t is c.loop-place.place places c.loop-place-test.false c.loop-place.invariant) in
    record {
      sound = ap₂ rearranges (ap length new ∙ size.0) new ∙ sym is;
      inverse = kept ∙ back_taken n t is ∙ sym (ap₂ inverse_of (ap length new ∙ size.0) new);
    }

pub returns-clause-on : goal.returns-clause-on
returns-clause-on c =
    let t = c.args.table.now in
    let n = c.args.lines in
    let is = c.if-not-is_rearrangement.ensures in
    ap length (c.of-new.ensures ∙ taken n t is) ∙ (sized n t is).0 ∙ ap (λ (b : Bool). cond b n 0) is

pub returns-clause-value : goal.returns-clause-value
returns-clause-value c =
    let t = c.args.table.now in
    let is = c.if-not-is_rearrangement.ensures in
    c.of-new.ensures ∙ taken c.args.lines t is ∙ ap (λ (b : Bool). cond b t []) is
