use Rattle.std.proofs.Common.{◌≤◌, ℕ, List, length, sym, ap, ◌∙◌, subst, ap₂}
use Rattle.gates.specs.declared.gate.Gate.{Gate}
use Rattle.gates.specs.Cascades.{picked}
use Rattle.gates.specs.Lines.{bit, where_below, width}
use Rattle.workspace.specs.Proposals.{template_of}
use Rattle.workspace.specs.Templates.{outside_selected}
use Rattle.workspace.specs.TemplateTests.{restores_test}
use Rattle.workspace.proofs.Stepping.{part_tested}
use Rattle.workspace.proofs.rules.does_part_restore.Goals as goal

pub returns : goal.returns
returns g c =
    let k = g.K.GateKind.means in
    let chosen = c.outside_selected-chosen.result in
    sym (part_tested k (template_of c.args.template.now) c.args.selection chosen c.do_chosen_restore.result (subst (λ (gs : List Gate). length gs ≤ 8) c.gates.ensures.is c.gates.ensures.few)
    (c.outside_selected-chosen.ensures ∙ ap (λ (groups : List ℕ). where_below width (outside_selected (bit c.args.selection) groups)) c.groups.ensures.is)
    (c.do_chosen_restore.ensures ∙ ap₂ (λ (n : ℕ) (gs : List Gate). restores_test k n (picked (bit chosen) gs)) c.lines.ensures c.gates.ensures.is))
