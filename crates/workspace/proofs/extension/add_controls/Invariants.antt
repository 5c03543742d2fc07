use Rattle.std.proofs.Common.{◌≡◌, Some}
use Rattle.fixed_list.specs.Lists.{contents}
use Rattle.workspace.specs.Occurrences.{asks, gathered}
use Rattle.workspace.specs.Extensions.{extended_by}
use Rattle.workspace.specs.Posing.{placed_of}
use Rattle.workspace.proofs.extension.add_controls.Given as goal

-- the controls for the lines so far are added
abbrev pub invariant-loop-line : goal.invariant-loop-line
invariant-loop-line g l =
    Some (placed_of (contents l.extended)) ≡ extended_by g.K.GateKind.means l.asking.groups.now (placed_of (contents l.turned)) (gathered (asks l.asking.table.now l.asking.groups.now (placed_of l.asking.chosen.now)) l.line)
