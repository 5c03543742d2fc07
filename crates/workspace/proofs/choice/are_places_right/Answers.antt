use Rattle.std.proofs.Common.{◌≡◌, ℕ, ltb, rules, tests}
use Rattle.std.specs.List.{list_all}
use Rattle.std.proofs.lemmas.Iterator.{YieldsList-from_slice}
use Rattle.std.proofs.lemmas.Iterator.Search.{all_from_yields_List}
use Rattle.workspace.proofs.choice.are_places_right.Goals as goal

pub returns-then-do_rise : goal.returns-then-do_rise
returns-then-do_rise c =
    let all : c.all-are_within.result ≡ list_all (λ (x : ℕ). ltb x c.args.reach) c.as_slice-distances.result.now =
    all_from_yields_List (λ (x : ℕ). ltb x c.args.reach) _ _ _ c.all-are_within.ensures.ran (YieldsList-from_slice c.as_slice-distances.result.now cc) (λ x b q k. search (rules, tests)) in
    search rules
