-- The numbers of refusals, by which users know them.
use Rattle.std.specs.Prelude.{ℕ}
use Rattle.gates.specs.Refusals.{gate_refusal_number}
use Rattle.workspace.specs.declared.refusal.TemplateRefusal.{TemplateRefusal}
use Rattle.workspace.specs.declared.refusal.TemplateRefusal.TheVariants.{Lines, Size, Gate, Groups, Whole, Selection, ShelfFull, NoSuchEntry}

-- 1: the number of lines; 2: a gate; 4: the shelf is full; 5: the number of gates; 6: the whole; 7: the groups; 8: a selection; 9: no such entry
abbrev pub template_refusal_number : TemplateRefusal → ℕ
template_refusal_number Lines = 1
template_refusal_number Size = 5
template_refusal_number (Gate refusal) = gate_refusal_number refusal
template_refusal_number Groups = 7
template_refusal_number Whole = 6
template_refusal_number Selection = 8
template_refusal_number ShelfFull = 4
template_refusal_number NoSuchEntry = 9
