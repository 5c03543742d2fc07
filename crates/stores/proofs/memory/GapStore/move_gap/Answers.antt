use Rattle.std.proofs.Common.{◌+◌, ◌-◌, List, ap, ◌∙◌, subst, sym, arith}
use Rattle.std.specs.List.{copy_within}
use Rattle.gates.specs.declared.gate.Gate.{Gate}
use Rattle.stores.specs.Memory.{GapMoved}
use Rattle.stores.proofs.GapEdits.{moved_down, moved_up}
use Rattle.stores.proofs.memory.GapStore.move_gap.Goals as goal
use Rattle.stores.proofs.memory.GapStore.move_gap.Goals.{then-place-self, else-place-self}

pub returns-clause-keeps : goal.returns-clause-keeps
returns-clause-keeps g c =
    let s = c.args.self.now in
    let p = c.args.place in
    let keeps = GapMoved s.lines s.records.now s.front s.back s.lines in
    let back = s.front + s.back - p in
    elim c.if-place-self.branch [
      | then-place-self w ↦
          let is = c.copy_within.ensures.after ∙ ap (λ to. copy_within s.records.now to.0.start to.0.end to.1) w.to-is in
          subst (λ (ys : List Gate). keeps ys p back) (sym is) (moved_down s.lines s.records.now s.front s.back p s.within (omega (arith, w.if-place-self.true)))
      | else-place-self w ↦
          let is = c.copy_within.ensures.after ∙ ap (λ to. copy_within s.records.now to.0.start to.0.end to.1) w.to-is in
          subst (λ (ys : List Gate). keeps ys p back) (sym is) (moved_up s.lines s.records.now s.front s.back p s.within w.if-place-self.false c.requires)
    ]
