use Rattle.std.proofs.Common.{◌≡◌, rules, ℕ, Bool, List, not, ◌&&◌, ltb, drop, take, ap, ◌∙◌}
use Rattle.std.proofs.lemmas.List.{take_min}
use Rattle.fixed_list.specs.Lists.{contents}
use Rattle.search.specs.Keys.{keyed}
use Rattle.workspace.specs.declared.notes.Image.{Image}
use Rattle.workspace.specs.Notes.{all_stand}
use Rattle.workspace.specs.TurnTests.{has_number_lem}
use Rattle.workspace.proofs.levels.next_lines.Goals as goal

pub returns : goal.returns
returns g c few =
    let new : List Image → ℕ → Bool = λ images x. not (has_number_lem (drop 6 (keyed c.args.key.now)) x) && all_stand g.K.GateKind.means (contents c.args.start.now.frame) images c.args.line x in
    let images = c.as_slice-images.result.now in
    let first : take c.min.result images ≡ take c.args.few (contents c.args.note.now.images) =
    ap (λ (n : ℕ). take n images) c.min.ensures ∙ take_min c.args.few images ∙ ap (λ (xs : List Image). take c.args.few xs) c.as_slice-images.ensures.is in
    λ i il. c.numbers_where.ensures (new (take c.min.result images)) (λ x l b says. search rules) i il ∙ ap (λ (n : ℕ). ltb i n && new (take c.min.result images) i) c.from.ensures ∙ ap (λ (xs : List Image). ltb i c.args.lines && new xs i) first
