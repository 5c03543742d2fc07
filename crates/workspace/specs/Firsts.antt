-- What is known once for a first place.
use Rattle.std.specs.Prelude.{◌≡◌, ℕ, List}
use Rattle.fixed_list.specs.Lists.{contents}
use Rattle.gates.specs.declared.gate.Gate.{Gate}
use Rattle.gates.specs.declared.kind.GateKind as kind
use Rattle.workspace.specs.declared.start.Start.{Start}
use Rattle.workspace.specs.Matching.{frame_at}

-- the start has the frame of the first place; what it knows of its frame, it has in itself
pub record Started {K : Type 0} {g : kind.Ghosts K} (gates : List Gate) (first : ℕ) (start : Start K g) : Type 0 where
  pub frame : contents start.frame ≡ frame_at gates first
