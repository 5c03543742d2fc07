use Rattle.std.proofs.Common.{◌≡◌, drop}
use Rattle.stores.specs.Mounts.{completes}
use Rattle.stores.proofs.rearrangement.is_rearrangement.Given as goal

-- what is left of the table completes what was seen exactly when the whole table completes nothing seen
abbrev pub invariant-loop-line : goal.invariant-loop-line
invariant-loop-line l = completes l.lines l.seen (drop l.line-index l.table) ≡ completes l.lines 0 l.table
