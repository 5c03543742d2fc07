use Rattle.std.proofs.Common.{◌≡◌, ◌≤◌, List, ◌++◌, map, length, sym, ap, ◌∙◌, subst, ap₂, arith}
use Rattle.std.proofs.lemmas.List.{take_all, drop_all, append-nil}
use Rattle.std.proofs.lemmas.Grind.{common_steps}
use Rattle.std.proofs.lemmas.List.Edits.{map_over_more}
use Rattle.gates.specs.declared.gate.Gate.{Gate}
use Rattle.gates.specs.Cascades.{backward, Undoes}
use Rattle.gates.proofs.Runs.{backward_undoes, backward_undone}
use Rattle.gates.proofs.cascade.invert_cascade.Goals as goal

pub loop-gate-preserved : goal.loop-gate-preserved
loop-gate-preserved g c = grind (arith, common_steps, map_over_more)

pub returns : goal.returns
returns g c =
    let k = g.K.GateKind.means in
    let laws = g.met.K.GateKind.lawful in
    let f = k.inverse in
    let xs = c.reverse.new.self in
    let i = c.loop-gate.gate-index in
    let end : length xs ≤ i = c.loop-gate-test.false in
    let is : c.loop-gate.gates ≡ backward k c.args.gates.now =
    c.loop-gate.invariant ∙ ap₂ (λ (ys zs : List Gate). map f ys ++ zs) (take_all i xs end) (drop_all i xs end) ∙ append-nil (map f xs) ∙ ap (map f) c.reverse.ensures.after in
    record {
      after = is;
      undoes = subst (Undoes k c.args.gates.now) (sym is) (λ n h. (backward_undoes laws n c.args.gates.now h, backward_undone laws n c.args.gates.now h));
    }
