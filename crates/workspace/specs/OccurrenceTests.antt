-- The test of an occurrence, by its key.
use Rattle.std.specs.Prelude.{ℕ, suc, ◌+◌, ◌*◌, Bool, true, false, ◌&&◌, ltb, leb, List, [], ◌∷◌, map, length, take, drop, Some, None, Decides, Option, ◌==◌, nat_eq, nat_le, nat_lt, slice_index_or}
use lib.Pointwise.{pointwise}
use Rattle.gates.specs.declared.gate.Gate.{Gate}
use Rattle.gates.specs.Kinds.{KindMeaning}
use Rattle.workspace.specs.Templates.{size}
use Rattle.workspace.specs.TemplateTests.{all_pass}
use Rattle.workspace.specs.Turns.{Added, turned_gates}
use Rattle.workspace.specs.TurnTests.{turn_test}
use Rattle.workspace.specs.Conditions.{EntryMeaning, no_entry}
use Rattle.workspace.specs.Occurrences.{Occurrence, places, key_of, template_on, at_places, additions, moves_front, is_chosen, Occurs}

-- the two records are equal
abbrev pub same_gate : Gate → Gate → Bool
same_gate g h = g.a == h.a && (g.b == h.b && (g.positive == h.positive && g.negative == h.negative))

-- the two lists are equal, element by element
abbrev pub same_list : {X : Type 0} → (X → X → Bool) → List X → List X → Bool
same_list same xs ys = pointwise same xs ys

-- strictly rising from q on
abbrev pub rising_test : ℕ → List ℕ → Bool
rising_test q [] = true
rising_test q (x ∷ xs) = nat_le q x && rising_test (suc x) xs

-- with the controls that it adds, if it can, the first of the turned gates are those at the places
abbrev pub equal_test : KindMeaning → List Gate → List EntryMeaning → Occurrence → Option (List Added) → Bool
equal_test k gates shelf o None = false
equal_test k gates shelf o (Some adds) = same_list same_gate (at_places gates (places o)) (take (length (places o)) (turned_gates k (template_on shelf o) o.turn adds))

-- the rules, one after another
abbrev pub rules_test : KindMeaning → ℕ → List Gate → List EntryMeaning → Occurrence → Bool
rules_test k n gates shelf o =
    nat_lt o.number (length shelf)
    && (turn_test k n (template_on shelf o) o.turn
    && (nat_lt (size (template_on shelf o)) (2 * length (places o))
    && (nat_le (length (places o)) (size (template_on shelf o))
    && (rising_test (suc o.first) o.later
    && (all_pass (λ q. ltb q (length gates)) (places o)
    && (all_pass (λ q. leb q (o.first + 31)) o.later
    && (equal_test k gates shelf o (additions k n gates (template_on shelf o) o)
    && moves_front k (is_chosen o) [] (drop o.first gates))))))))

-- the occurrence that a key names: behind the first six numbers stand as many lines as the template has, then distances
abbrev pub named_by : List EntryMeaning → List ℕ → Option Occurrence
named_by shelf [] = None
named_by shelf (p ∷ []) = None
named_by shelf (p ∷ t ∷ []) = None
named_by shelf (p ∷ t ∷ c ∷ []) = None
named_by shelf (p ∷ t ∷ c ∷ b ∷ []) = None
named_by shelf (p ∷ t ∷ c ∷ b ∷ r ∷ []) = None
named_by shelf (p ∷ t ∷ c ∷ b ∷ r ∷ f ∷ rest) =
    let lines = (slice_index_or shelf t no_entry).template.lines in
    Some record {
      first = p;
      number = t;
      turn = record { back = (b == 1); rotation = r; flips = f; table = take lines rest };
      later = map (λ d. p + d) (drop lines rest);
    }

-- what is named meets the rules and has this key
abbrev pub named_test : KindMeaning → ℕ → List Gate → List EntryMeaning → List ℕ → Option Occurrence → Bool
named_test k n gates shelf key None = false
named_test k n gates shelf key (Some o) = same_list nat_eq key (key_of o) && rules_test k n gates shelf o

-- the key is that of an occurrence
abbrev pub occurs_test : KindMeaning → ℕ → List Gate → List EntryMeaning → List ℕ → Bool
occurs_test k n gates shelf key = named_test k n gates shelf key (named_by shelf key)

-- the test decides
abbrev pub OccurrencesDecided : KindMeaning → Type 0
OccurrencesDecided k = (n : ℕ) (gates : List Gate) (shelf : List EntryMeaning) (key : List ℕ) → Decides (occurs_test k n gates shelf key) (Occurs k n gates shelf key)
