use Rattle.std.proofs.Common.{sym, ◌∙◌, ap₂}
use Rattle.fixed_list.specs.Lists.{contents}
use Rattle.search.specs.Keys.{keyed}
use Rattle.workspace.specs.Holdings.{condition_of}
use Rattle.workspace.specs.Occurrences.{at_places}
use Rattle.workspace.specs.Proposals.{template_of}
use Rattle.workspace.proofs.PlannedKeys.{read_none, extended_none, planned}
use Rattle.workspace.proofs.holdings.Holdings.plan.Goals as goal

pub returns-in_err-named : goal.returns-in_err-named
returns-in_err-named g c sound there =
    absurd (read_none g.S.Kind.GateKind.means (condition_of g.S.Store.means c.args.self.now) (keyed c.args.key.now) sound there c.from.result (c.from.ensures ∙ c.at.ensures)
    (template_of c.in_ok-template.template.now) c.in_ok-template.ensures.1 c.lines.result c.lines.ensures c.in_err-named.ensures)

pub returns-in_err-extended : goal.returns-in_err-extended
returns-in_err-extended g c sound there =
    absurd (extended_none g.S.Kind.GateKind.means (condition_of g.S.Store.means c.args.self.now) (keyed c.args.key.now) sound there c.from.result (c.from.ensures ∙ c.at.ensures)
    (template_of c.in_ok-template.template.now) c.in_ok-template.ensures.1 c.lines.result c.lines.ensures c.in_ok-named.named c.in_ok-named.ensures
    (contents c.frame_from-frame.result) c.frame_from-frame.ensures c.as_slice-2.result.now (c.as_slice-2.ensures.is ∙ c.gates_at-chosen.ensures ∙ ap₂ at_places c.as_slice.ensures.is c.distances.ensures)
    c.lines-2.result c.lines-2.ensures c.extend.result c.extend.ensures (sym c.ok.ensures.value ∙ c.in_err-extended.was))

pub returns : goal.returns
returns g c sound there =
    planned g.S.Kind.GateKind.means (condition_of g.S.Store.means c.args.self.now) (keyed c.args.key.now) sound there c.from.result (c.from.ensures ∙ c.at.ensures)
    (template_of c.in_ok-template.template.now) c.in_ok-template.ensures.1 c.lines.result c.lines.ensures c.in_ok-named.named c.in_ok-named.ensures
    (contents c.frame_from-frame.result) c.frame_from-frame.ensures c.as_slice-2.result.now (c.as_slice-2.ensures.is ∙ c.gates_at-chosen.ensures ∙ ap₂ at_places c.as_slice.ensures.is c.distances.ensures)
    c.lines-2.result c.lines-2.ensures c.extend.result c.extend.ensures c.in_ok-extended.extended (sym c.ok.ensures.value ∙ c.in_ok-extended.was)
