use Rattle.std.proofs.Common.{◌≡◌, suc, length, rules, tests, sym, refl, ap, ◌∙◌, arith}
use Rattle.std.specs.List.{find, range_with_len}
use Rattle.std.proofs.lemmas.Iterator.Adapters.{option_map_id}
use Rattle.std.proofs.lemmas.Iterator.{YieldsList-from_range}
use Rattle.std.proofs.lemmas.Iterator.Search.{find_from_yields_List}
use Rattle.workspace.specs.Extensions.{found_as}
use Rattle.workspace.specs.Occurrences.{fits_group}
use Rattle.workspace.specs.Posing.{placed_of}
use Rattle.workspace.proofs.Asks.{lowest_is}
use Rattle.workspace.proofs.asking.Asking.find_group.Goals as goal

pub returns : goal.returns
returns c sign =
    let groups = c.args.self.now.groups.now in
    let fits = fits_group groups (placed_of c.args.self.now.chosen.now) c.args.line in
    let is : c.find.result ≡ find fits (range_with_len 0 (suc (length groups))) =
    sym (option_map_id c.find.result) ∙ find_from_yields_List fits _ _ c.find.result c.find.ensures.ran (YieldsList-from_range 0 _ (suc (length groups)) refl (omega arith)) (λ x b q k. search (rules, tests)) in
    ap (found_as sign) is ∙ lowest_is fits sign 0 (suc (length groups))
