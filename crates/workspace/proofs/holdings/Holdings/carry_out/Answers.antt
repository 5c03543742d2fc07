use Rattle.std.proofs.Common.{◌≡◌, ℕ, ◌+◌, ◌-◌, ◌^◌, map, length, take, drop, sym, refl, ap, ◌∙◌, ap₂, arith}
use Rattle.std.proofs.lemmas.List.{length-map, take_rest, drop-map}
use Rattle.fixed_list.specs.Lists.{contents}
use Rattle.stores.specs.Stores.{with_gates}
use Rattle.workspace.specs.declared.posed.Member.{Member}
use Rattle.workspace.specs.Turns.{gates_of, turned_gates}
use Rattle.workspace.specs.Conditions.{condition}
use Rattle.workspace.specs.Holdings.{condition_of}
use Rattle.workspace.specs.Naming.{occurrence_of}
use Rattle.workspace.specs.Occurrences.{places, template_on, after_replacing}
use Rattle.workspace.proofs.CarryingOut.{carried, members_gates, as_many}
use Rattle.workspace.proofs.holdings.Holdings.carry_out.Goals as goal

pub returns : goal.returns
returns g c key sound planned =
    let k = g.S.Kind.GateKind.means in
    let h = c.args.self.now in
    let before = condition_of g.S.Store.means h in
    let plan = c.args.plan.now in
    let named = plan.named in
    let o = occurrence_of named in
    let is = planned.rules in
    let e = template_on before.shelf o in
    let members = contents plan.extended in
    let turned = turned_gates k e o.turn is.adds in
    let laws = g.met.S.Kind.GateKind.lawful in
    let bounded = g.S.Store.bounded h.store in
    let many = as_many k laws before bounded sound o is in
    let xs = c.as_slice-extended.result.now in
    let gates-same : map (λ (m : Member). m.gate) xs ≡ turned = ap (map (λ (m : Member). m.gate)) c.as_slice-extended.ensures.is ∙ members_gates members ∙ ap gates_of planned.extended in
    let sized : length xs ≡ length turned = sym (length-map xs (λ (m : Member). m.gate)) ∙ ap length gates-same in
    let placed : length (places o) ≡ length (contents named.later) + 1 = omega (arith, length-map (contents named.later) (λ (d : ℕ). named.first + d)) in
    let chosen : c.min-chosen.result ≡ length (places o) = omega (arith, c.min-chosen.ensures, is.within, c.len.ensures.is) in
    let ds = c.as_slice.result.now in
    let ms = take (length xs - c.min-chosen.result) (drop c.min-chosen.result xs) in
    let later : o.later ≡ map (λ (d : ℕ). named.first + d) ds = ap (map (λ (d : ℕ). named.first + d)) (sym c.as_slice.ensures.is) in
    let others : map (λ (m : Member). m.gate) ms ≡ drop (length (places o)) turned =
    ap (map (λ (m : Member). m.gate)) (take_rest xs c.min-chosen.result) ∙ sym (drop-map (λ (m : Member). m.gate) c.min-chosen.result xs) ∙ ap₂ drop chosen gates-same in
    let stored : g.S.Store.means c.put_inverses.new.store ≡ with_gates before.store (after_replacing k before.store.gates e o is.adds) =
    carried k laws before bounded sound o is (2 ^ 64 - 1) (omega (arith, bounded.fits, bounded.small)) (g.S.Store.means c.take_out.new.store) (g.S.Store.means c.put_inverses.new.store) ds ms later c.take_out.ensures others c.put_inverses.ensures in
    record {
      occurrence = o;
      named = planned.named;
      rules = is;
      template = refl;
      place = refl;
      saves = omega (arith, c.saturating_sub.ensures, many);
      leaves = ap₂ condition stored c.count_one.ensures;
    }
