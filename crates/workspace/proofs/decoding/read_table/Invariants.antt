use Rattle.std.proofs.Common.{◌≡◌, ltb, true, take}
use Rattle.fixed_list.specs.Lists.{contents}
use Rattle.workspace.specs.TemplateTests.{all_pass}
use Rattle.workspace.proofs.decoding.read_table.Given as goal

-- the lines so far are small and in the table
abbrev pub invariant-loop-line : goal.invariant-loop-line
invariant-loop-line l = record {
  held : contents l.table ≡ take l.line-index l.lines;
  small : all_pass (λ x. ltb x 256) (take l.line-index l.lines) ≡ true;
}
