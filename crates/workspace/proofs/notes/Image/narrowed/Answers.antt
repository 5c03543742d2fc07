use Rattle.std.proofs.Common.{Bool, ◌&&◌, ap, ◌∙◌}
use Rattle.gates.specs.Lines.{bit}
use Rattle.gates.proofs.Masks.{bit-bit_and}
use Rattle.workspace.proofs.notes.Image.narrowed.Goals as goal

pub returns-clause-reaches : goal.returns-clause-reaches
returns-clause-reaches g c frame x roles i l =
    let reached = c.args.self.reached in
    bit-bit_and reached c.matching.result i ∙ ap (λ (b : Bool). bit reached i && b) (c.matching.ensures frame x roles i l)
