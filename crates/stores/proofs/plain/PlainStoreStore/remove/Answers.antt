use Rattle.std.proofs.Common.{ℕ, ◌-◌, ◌<◌, List, take, sym, ap, ◌∙◌, ap₂, arith}
use Rattle.std.proofs.lemmas.List.{length-take-le}
use Rattle.gates.specs.declared.gate.Gate.{Gate}
use Rattle.fixed_list.proofs.Shifts.{moved_up}
use Rattle.stores.specs.Held.{plain_held}
use Rattle.stores.specs.Memory.{in_memory}
use Rattle.stores.specs.Stores.{after}
use Rattle.stores.proofs.Outcomes.{read_told, remove_ok}
use Rattle.stores.proofs.plain.PlainStoreStore.remove.Goals as goal

pub returns-clause-leaves : goal.returns-clause-leaves
returns-clause-leaves g c =
    let s = c.args.self.now in
    let xs = s.records.now in
    let n = s.count in
    let p = c.args.place in
    let here = (read_told (plain_held s) p c.in_ok-gate.gate c.in_ok-gate.ensures).0 in
    let lt : p < n = omega (arith, here, length-take-le n xs s.within) in
    ap₂ (λ (z : ℕ) (r : List Gate). in_memory s.lines z r)
    c.copy_within.ensures.len
    (ap (take (n - 1)) c.copy_within.ensures.after ∙ moved_up xs n p lt s.within)
    ∙ sym (ap (after (plain_held s)) (remove_ok (plain_held s) p here))
