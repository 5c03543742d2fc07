use Rattle.std.proofs.Common.{List, ap, ◌∙◌}
use Rattle.fixed_list.specs.Lists.{contents}
use Rattle.workspace.specs.Posing.{placed_of}
use Rattle.workspace.specs.Proposals.{template_of}
use Rattle.workspace.specs.TurnTests.{has_number_lem}
use Rattle.workspace.proofs.RulesInFrame.{not_placed, not_extended, at_their_places, not_first, first_move}
use Rattle.workspace.proofs.occurs.meets_rules.Goals as goal

pub returns-then-not-are_places_right : goal.returns-then-not-are_places_right
returns-then-not-are_places_right g c gates shelf framed listed is =
    not_placed g.K.GateKind.means c.args.lines c.args.frame.now c.args.named.now (template_of c.args.template.now) gates shelf framed listed is
    c.size.result c.size.ensures.is (contents c.distances-distances.result) c.distances-distances.ensures c.if-not-is_turn.ensures c.if-not-are_places_right.ensures

pub returns-in_default : goal.returns-in_default
returns-in_default g c gates shelf framed listed is =
    let k = g.K.GateKind.means in
    let n = c.args.lines in
    let f = c.args.frame.now in
    let m = c.args.named.now in
    let e = template_of c.args.template.now in
    let size = c.size.result in
    let sized = c.size.ensures.is in
    let ds = contents c.distances-distances.result in
    let far = c.distances-distances.ensures in
    let turns = c.if-not-is_turn.ensures in
    let right = c.if-not-are_places_right.ensures in
    let chosen = c.as_slice-chosen.result.now in
    not_extended k n f m e gates shelf framed listed is size sized ds far turns right
    (c.in_default.ensures gates (at_their_places k n f m e gates shelf framed listed is size sized ds far turns right chosen (c.as_slice-chosen.ensures.is ∙ c.gates_at-chosen.ensures)))

pub returns-then-are_first : goal.returns-then-are_first
returns-then-are_first g c gates shelf framed listed is =
    let k = g.K.GateKind.means in
    let n = c.args.lines in
    let f = c.args.frame.now in
    let m = c.args.named.now in
    let e = template_of c.args.template.now in
    let size = c.size.result in
    let sized = c.size.ensures.is in
    let ds = contents c.distances-distances.result in
    let far = c.distances-distances.ensures in
    let turns = c.if-not-is_turn.ensures in
    let right = c.if-not-are_places_right.ensures in
    let chosen = c.as_slice-chosen.result.now in
    let held = c.as_slice-chosen.ensures.is ∙ c.gates_at-chosen.ensures in
    let made = c.in-Ok.ensures gates (at_their_places k n f m e gates shelf framed listed is size sized ds far turns right chosen held) in
    c.do_move_front.ensures
    ∙ first_move k n f m e gates shelf framed listed is size sized ds far turns right chosen held (placed_of (contents c.in-Ok.extended)) made c.if-are_first.ensures c.find_chosen.result
    (λ i lt. c.find_chosen.ensures i lt ∙ ap (λ (qs : List _). has_number_lem qs i) c.as_slice.ensures.is)

pub returns-else-are_first : goal.returns-else-are_first
returns-else-are_first g c gates shelf framed listed is =
    let k = g.K.GateKind.means in
    let n = c.args.lines in
    let f = c.args.frame.now in
    let m = c.args.named.now in
    let e = template_of c.args.template.now in
    let size = c.size.result in
    let sized = c.size.ensures.is in
    let ds = contents c.distances-distances.result in
    let far = c.distances-distances.ensures in
    let turns = c.if-not-is_turn.ensures in
    let right = c.if-not-are_places_right.ensures in
    let chosen = c.as_slice-chosen.result.now in
    let held = c.as_slice-chosen.ensures.is ∙ c.gates_at-chosen.ensures in
    let made = c.in-Ok.ensures gates (at_their_places k n f m e gates shelf framed listed is size sized ds far turns right chosen held) in
    c.if-are_first.false ∙ not_first k n f m e gates shelf framed listed is size sized ds far turns right chosen held (placed_of (contents c.in-Ok.extended)) made c.if-are_first.ensures
