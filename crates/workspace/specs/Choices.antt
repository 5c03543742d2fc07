-- The places of an occurrence, by their distances from the first.
use Rattle.std.specs.Prelude.{ℕ, ◌*◌, Bool, ◌&&◌, ltb, List, length, nat_le, nat_lt}
use Rattle.workspace.specs.TemplateTests.{all_pass}
use Rattle.workspace.specs.OccurrenceTests.{rising_test}

-- of a template with so many gates more than half are chosen and no more than it has, and the distances rise and are in a frame of so many gates
abbrev pub places_test : ℕ → ℕ → List ℕ → Bool
places_test size reach distances =
    nat_lt size (2 * length distances) && (nat_le (length distances) size && (rising_test 0 distances && all_pass (λ d. ltb d reach) distances))
