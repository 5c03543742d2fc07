use Rattle.std.proofs.Common.{◌≡◌, ◌≤◌, drop, take}
use Rattle.gates.specs.Controls.{renamed_set}
use Rattle.gates.specs.Lines.{width}
use Rattle.gates.proofs.sets.rename.Given as goal

-- the set has the new lines of those of its lines that are below this one; the table's entries from this line on are to come
abbrev pub invariant-loop-line : goal.invariant-loop-line
invariant-loop-line l =
    record {
      so_far : l.renamed ≡ renamed_set (take l.line-iterator.a.start l.table) l.set;
      within : l.line-iterator.a.start ≤ width;
      end : l.line-iterator.a.end ≡ width;
      rest : l.line-iterator.b.rest.now ≡ drop l.line-iterator.a.start l.table;
    }
