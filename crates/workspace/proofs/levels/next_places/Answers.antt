use Rattle.std.proofs.Common.{◌≡◌, ◌≤◌, ◌&&◌, List, length, get_or, sym, ap, ap₂, ◌∙◌, arith}
use Rattle.std.proofs.lemmas.List.{get_or_past}
use Rattle.std.proofs.lemmas.Bool.{and_left, ltb-false}
use Rattle.fixed_list.specs.Lists.{contents}
use Rattle.gates.specs.Lines.{bit}
use Rattle.gates.specs.Members.{bit_none}
use Rattle.gates.proofs.Masks.{bit-bit_and}
use Rattle.workspace.specs.declared.notes.Image.{Image}
use Rattle.workspace.specs.Notes.{blank_image, image_at}
use Rattle.workspace.proofs.levels.next_places.Goals as goal

pub returns-in_default : goal.returns-in_default
returns-in_default g c i l =
    let images = contents c.args.note.now.images in
    let past : length images ≤ c.args.place = omega (arith, ltb-false c.args.place (length c.as_slice.result.now) (sym c.in_default.ensures.lookup.0), ap length c.as_slice.ensures.is) in
    bit_none i
    ∙ sym (and_left (bit (image_at c.args.note.now c.args.place).reached i) _ (ap (λ (m : Image). bit m.reached i) (get_or_past images c.args.place blank_image past) ∙ bit_none i))

pub returns : goal.returns
returns g c i l =
    let image = c.in-Some.image.now in
    let is : image ≡ image_at c.args.note.now c.args.place = c.in-Some.ensures.lookup.3.1 blank_image ∙ ap (λ (xs : List Image). get_or xs c.args.place blank_image) c.as_slice.ensures.is in
    bit-bit_and image.reached c.eligible.result i ∙ ap₂ ◌&&◌ (ap (λ (m : Image). bit m.reached i) is) (c.eligible.ensures i l)
