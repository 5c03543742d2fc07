use Rattle.std.proofs.Common.{rules, ◌≡◌, ℕ, List, Bool, Bor, eqb, drop, ap, ◌∙◌}
use Rattle.std.specs.List.{list_any}
use Rattle.std.proofs.lemmas.Iterator.{YieldsList-from_slice}
use Rattle.std.proofs.lemmas.Iterator.Adapters.{YieldsList-from_skip}
use Rattle.std.proofs.lemmas.Iterator.Consumers.{YieldsList-at}
use Rattle.std.proofs.lemmas.Iterator.Search.{any_from_yields_List}
use Rattle.workspace.proofs.levels.is_mapped.Goals as goal

pub returns : goal.returns
returns c =
    let test : ℕ → Bool = λ image. eqb image c.args.x.now.number in
    let numbers = YieldsList-at c.skip.ensures.source (YieldsList-from_slice c.as_slice.result.now c.iter.ensures.rest) in
    let any : c.any.result ≡ list_any test (drop 6 c.as_slice.result.now) =
    any_from_yields_List {v = λ (n : Bor ℕ). n.now} {s = c.skip.result} test _ _ c.any.result c.any.ensures.ran (YieldsList-from_skip 6 numbers c.skip.ensures.count) (λ x b q called. search rules) in
    any ∙ ap (λ (xs : List ℕ). list_any test (drop 6 xs)) c.as_slice.ensures.is
