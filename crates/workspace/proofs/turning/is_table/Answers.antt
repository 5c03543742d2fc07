use Rattle.std.proofs.Common.{◌≡◌, ℕ, ltb, rules, tests}
use Rattle.std.specs.List.{list_all}
use Rattle.std.proofs.lemmas.Iterator.{YieldsList-from_slice}
use Rattle.std.proofs.lemmas.Iterator.Search.{all_from_yields_List}
use Rattle.workspace.proofs.turning.is_table.Goals as goal

pub returns-then-are_lines : goal.returns-then-are_lines
returns-then-are_lines c =
    let all : c.all-are_lines.result ≡ list_all (λ (x : ℕ). ltb x c.args.lines) c.args.table.now =
    all_from_yields_List (λ (x : ℕ). ltb x c.args.lines) _ _ _ c.all-are_lines.ensures.ran (YieldsList-from_slice c.args.table.now cc) (λ x b q k. search (rules, tests)) in
    search rules
