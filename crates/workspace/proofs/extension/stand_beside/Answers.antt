use Rattle.std.proofs.Common.{List, rules, ap, ◌∙◌, arith}
use Rattle.std.proofs.lemmas.List.{take_all}
use Rattle.std.proofs.lemmas.Iterator.{YieldsList-from_slice, YieldsList-from_zip, YieldsList-from_map}
use Rattle.std.proofs.lemmas.Iterator.Consumers.{YieldsList-at}
use Rattle.fixed_list.proofs.Collecting.{collected_is}
use Rattle.gates.specs.declared.gate.Gate.{Gate}
use Rattle.workspace.specs.declared.posed.Member.{Member}
use Rattle.workspace.specs.Occurrences.{beside}
use Rattle.workspace.specs.Posing.{placed_of}
use Rattle.workspace.proofs.Extends.{beside_zip, standing_of, standing_few}
use Rattle.workspace.proofs.extension.stand_beside.Goals as goal

pub returns : goal.returns
returns c =
    let ms = c.as_slice.result.now in
    let gs = c.args.gates.now in
    let pairs = YieldsList-from_zip (YieldsList-at c.zip-pairs.ensures.first (YieldsList-from_slice ms c.iter.ensures.rest)) (YieldsList-from_slice gs c.zip-pairs.ensures.second.0) in
    let standing =
    collected_is c.collected.ensures
    (YieldsList-from_map _ (λ (p : Member × Gate). record { position = p.0.position; gate = p.1 }) (YieldsList-at c.map-standing.ensures.source pairs) c.map-standing.ensures.closure (λ x r q k. search rules)) in
    ap placed_of (standing ∙ take_all 8 (standing_of ms gs) (omega (arith, standing_few ms gs, c.as_slice.ensures.few)))
    ∙ beside_zip ms gs ∙ ap (λ (xs : List Member). beside (placed_of xs) gs) c.as_slice.ensures.is
