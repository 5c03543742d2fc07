use Rattle.std.proofs.Common.{◌≡◌, ℕ, ◌+◌, ◌-◌, ◌≤◌, cond, ltb, List, length, get_or, take, drop, Some, None, ap, ◌∙◌, ap₂, arith}
use Rattle.std.proofs.lemmas.List.{take_rest}
use Rattle.workspace.specs.TemplateTests.{all_pass}
use Rattle.workspace.specs.Naming.{readable, spelled}
use Rattle.workspace.proofs.Names.{decoded}
use Rattle.workspace.proofs.decoding.decode.Goals as goal

pub returns : goal.returns
returns c =
    let xs = c.as_slice.result.now in
    let n = c.from-lines.result in
    let rest : take (length xs - 6) (drop 6 xs) ≡ drop 6 xs = take_rest xs 6 in
    let front : c.split_at.result.0.now ≡ take n (drop 6 xs) = c.split_at.ensures.front ∙ ap (take n) rest in
    let back : c.split_at.result.1.now ≡ drop n (drop 6 xs) = c.split_at.ensures.back ∙ ap (drop n) rest in
    let long : 6 ≤ length xs = c.in-len6-up.len_at_least in
    let room : n ≤ length (drop 6 xs) = omega (arith, c.if-lines-rest.false, ap length rest) in
    let sum : get_or xs 2 0 + length (drop 6 xs) ≡ 7 + n = omega (arith, c.if-from-rest.false, c.from.ensures, ap length rest) in
    decoded n xs long c.if-lines-gt-MOST_MAPPED.false room sum c.if-back-gt1.false c.from-2.result c.from-3.result c.from-4.result c.from-5.result _ _ c.from-2.ensures c.from-3.ensures c.from-4.ensures c.from-5.ensures
    (c.in_ok-read_table.ensures ∙ ap (λ (ms : List ℕ). cond (all_pass (λ x. ltb x 256) ms) (Some ms) None) front) (c.read_later.ensures ∙ back)
    ∙ ap₂ (λ lines key. cond (readable lines key) (Some (spelled lines key)) None) c.from-lines.ensures c.as_slice.ensures.is
