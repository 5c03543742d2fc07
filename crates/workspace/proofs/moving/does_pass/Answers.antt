use Rattle.std.proofs.Common.{ℕ, Bool, not, ◌||◌, rules, tests, ap, ◌∙◌}
use Rattle.std.proofs.lemmas.Iterator.{YieldsList-from_slice}
use Rattle.std.proofs.lemmas.Iterator.Consumers.{YieldsList-from_enumerate}
use Rattle.std.proofs.lemmas.Iterator.Search.{all_from_yields_List}
use Rattle.gates.specs.declared.gate.Gate.{Gate}
use Rattle.gates.specs.Cascades.{picked}
use Rattle.gates.specs.Lines.{bit}
use Rattle.workspace.specs.Occurrences.{passes}
use Rattle.workspace.proofs.Passing.{passes_is}
use Rattle.workspace.proofs.Stepping.{from_start}
use Rattle.workspace.proofs.moving.does_pass.Goals as goal

pub returns : goal.returns
returns g c =
    let k = g.K.GateKind.means in
    let chosen = bit c.args.chosen in
    let gates = c.args.before.now in
    all_from_yields_List (λ (x : ℕ × Gate). chosen x.0 || k.free x.1 c.args.gate) _ _ _ c.all.ensures.ran (YieldsList-from_enumerate (YieldsList-from_slice gates cc) cc) (λ x b q k. search (rules, tests))
    ∙ passes_is k chosen c.args.gate 0 gates
    ∙ ap (λ (d : ℕ → Bool). passes k (picked d gates) c.args.gate) (from_start (λ i. not (chosen i)))
