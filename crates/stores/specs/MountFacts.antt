-- Mounts are bounded as every store is.
use Rattle.std.specs.Prelude.{◌≡◌, ℕ, List, map, reverse, length, drop}
use Rattle.std.proofs.Common.{◌∙◌, arith}
use Rattle.std.proofs.lemmas.List.{length-map, length-reverse, length-take, length-drop}
use Rattle.gates.specs.declared.gate.Gate.{Gate}
use Rattle.gates.specs.Kinds.{KindMeaning}
use Rattle.gates.specs.Cascades.{backward}
use Rattle.stores.specs.Stores.{StoreMeaning, Bounded, with_gates}
use Rattle.stores.specs.Mounts.{reversed, shown_gate, renamed_view, window, start_in, size_in}

-- another list of the same length fits as well
pub same_bounded : (m : StoreMeaning) (gates : List Gate) → length gates ≡ length m.gates → Bounded m → Bounded (with_gates m gates)
same_bounded m gates same b =
    record { some_line = b.some_line; few_lines = b.few_lines; fits = omega (arith, same, b.fits); small = b.small }

-- a list backward is as long as the list
pub backward_long : (k : KindMeaning) (gates : List Gate) → length (backward k gates) ≡ length gates
backward_long k gates = length-map (reverse gates) k.inverse ∙ length-reverse gates

-- a reversed store
pub reversed_bounded : (k : KindMeaning) (m : StoreMeaning) → Bounded m → Bounded (reversed k m)
reversed_bounded k m b = same_bounded m (backward k m.gates) (backward_long k m.gates) b

-- a store with each gate turned into another, whatever turns it
pub turned_bounded : (turn : Gate → Gate) (m : StoreMeaning) → Bounded m → Bounded (with_gates m (map turn m.gates))
turned_bounded turn m b = same_bounded m (map turn m.gates) (length-map m.gates turn) b

-- a renamed store
pub renamed_bounded : (k : KindMeaning) (table : List ℕ) (m : StoreMeaning) → Bounded m → Bounded (renamed_view k table m)
renamed_bounded k table m b = turned_bounded (shown_gate k table m.lines) m b

-- a window
pub window_bounded : (start size : ℕ) (m : StoreMeaning) → Bounded m → Bounded (window start size m)
window_bounded start size m b =
    let gates = m.gates in
    record {
      some_line = b.some_line;
      few_lines = b.few_lines;
      fits = omega (arith, length-take (size_in m start size) (drop (start_in m start) gates), length-drop (start_in m start) gates, b.fits);
      small = omega (arith, b.small);
    }
