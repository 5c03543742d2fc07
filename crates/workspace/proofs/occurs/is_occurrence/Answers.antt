use Rattle.std.proofs.Common.{◌≡◌, ℕ, ◌<◌, List, length, get_or, rules, sym, ap, ◌∙◌, arith}
use Rattle.gates.specs.declared.gate.Gate.{Gate}
use Rattle.search.specs.Keys.{keyed}
use Rattle.workspace.specs.declared.named.Named.{Named}
use Rattle.workspace.specs.Templates.{TemplateMeaning}
use Rattle.workspace.specs.Conditions.{EntryMeaning, no_entry}
use Rattle.workspace.specs.Occurrences.{template_on}
use Rattle.workspace.specs.OccurrenceTests.{rules_test}
use Rattle.workspace.specs.Matching.{frame_at}
use Rattle.workspace.specs.Naming.{occurrence_of}
use Rattle.workspace.specs.Proposals.{template_of}
use Rattle.workspace.specs.Shelves.{entries_of}
use Rattle.workspace.proofs.Spelling.{decoded_test}
use Rattle.workspace.proofs.occurs.is_occurrence.Goals as goal

pub returns : goal.returns
returns g c gates framed meets few =
    let k = g.K.GateKind.means in
    let n = c.args.lines in
    let shelf = entries_of c.args.shelf.now in
    let key = keyed c.args.key.now in
    let l = c.lines.result in
    let e = template_of c.in-Some.template.now in
    let number : c.from.result ≡ get_or key 1 0 = c.from.ensures ∙ c.at.ensures in
    let template : e ≡ (get_or shelf (get_or key 1 0) no_entry).template = c.in-Some.ensures.1 ∙ ap (λ (i : ℕ). (get_or shelf i no_entry).template) number in
    let lines : (get_or shelf (get_or key 1 0) no_entry).template.lines ≡ l = ap (λ (t : TemplateMeaning). t.lines) (sym template) ∙ sym c.lines.ensures in
    let called : (m : Named) → m.first ≡ get_or key 0 0 → m.number ≡ get_or key 1 0
    → ((gs : List Gate) (es : List EntryMeaning) → c.args.frame.now ≡ frame_at gs m.first → m.number < length es → template_on es (occurrence_of m) ≡ e → c.is_some_and.result ≡ rules_test k n gs es (occurrence_of m))
    → c.is_some_and.result ≡ rules_test k n gates shelf (occurrence_of m) =
    λ m first named q. q gates shelf (framed ∙ ap (frame_at gates) (sym first)) (omega (arith, number, named, c.in-Some.ensures.0)) (ap (λ (i : ℕ). (get_or shelf i no_entry).template) named ∙ sym template) in
    decoded_test k n gates shelf key l lines meets c.decode.result c.is_some_and.result _ c.decode.ensures (λ m first named q. called m first named (search rules)) c.is_some_and.ensures
