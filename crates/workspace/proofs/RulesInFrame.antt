-- The rules of a named occurrence against the tests of the code, which look at the frame alone.
use Rattle.std.proofs.Common.{◌≡◌, ℕ, ◌<◌, Bool, true, false, ◌&&◌, List, [], ◌∷◌, length, get_or, take, drop, Some, None, sym, refl, ap, ◌∙◌, ap₂, arith}
use Rattle.std.proofs.lemmas.List.{length-map}
use Rattle.gates.specs.declared.gate.Gate.{Gate}
use Rattle.fixed_list.specs.Lists.{contents}
use Rattle.gates.specs.Controls.{gate}
use Rattle.gates.specs.Lines.{bit}
use Rattle.gates.specs.Kinds.{KindMeaning}
use Rattle.workspace.specs.declared.named.Named.{Named}
use Rattle.workspace.specs.Templates.{TemplateMeaning, size}
use Rattle.workspace.specs.Turns.{Placed, gates_of}
use Rattle.workspace.specs.TurnTests.{has_number_lem, turn_test}
use Rattle.workspace.specs.Conditions.{EntryMeaning}
use Rattle.workspace.specs.Occurrences.{places, template_on, at_places, additions, moves_front, is_chosen}
use Rattle.workspace.specs.OccurrenceTests.{same_gate, same_list, equal_test, rules_test}
use Rattle.workspace.specs.Matching.{frame_at}
use Rattle.workspace.specs.Naming.{occurrence_of}
use Rattle.workspace.specs.Extensions.{turned_by}
use Rattle.workspace.specs.Choices.{places_test}
use Rattle.workspace.proofs.Extends.{frame_places}
use Rattle.workspace.proofs.Passing.{moves_same}
use Rattle.workspace.proofs.Testing.{frame_long, rules_are, PlacedRight, places_right, moves_are, equal_none, equal_some}

-- what is tested of the named occurrence in a frame
module _ (k : KindMeaning) (n : ℕ) (frame : List Gate) (m : Named) (e : TemplateMeaning) (gates : List Gate) (shelf : List EntryMeaning)
    (framed : frame ≡ frame_at gates m.first) (listed : m.number < length shelf) (is : template_on shelf (occurrence_of m) ≡ e)
    (many : ℕ) (sized : many ≡ size e) (ds : List ℕ) (far : ds ≡ 0 ∷ contents m.later) where
  abbrev rules : Bool
  rules = rules_test k n gates shelf (occurrence_of m)

  -- the tests that are left after those of the turn and the places
  abbrev rest : Bool
  rest = equal_test k gates shelf (occurrence_of m) (additions k n gates e (occurrence_of m)) && moves_front k (is_chosen (occurrence_of m)) [] (drop m.first gates)

  tests : rules ≡ (turn_test k n e (occurrence_of m).turn && (places_test many (length frame) ds && rest))
  tests =
      rules_are k n gates shelf e m.first m.number (occurrence_of m).turn (length frame) (contents m.later) listed is (ap length framed ∙ frame_long gates m.first)
      ∙ ap₂ (λ (z : ℕ) (xs : List ℕ). turn_test k n e (occurrence_of m).turn && (places_test z (length frame) xs && rest)) (sym sized) (sym far)

  module _ (turns : true ≡ turn_test k n e (occurrence_of m).turn) where
    pub not_placed : false ≡ places_test many (length frame) ds → false ≡ rules
    not_placed h = ap₂ (λ (a b : Bool). a && (b && rest)) turns h ∙ sym tests

    module _ (right : true ≡ places_test many (length frame) ds) where
      placed_right : PlacedRight m.first (contents m.later)
      placed_right =
          places_right m.first (size e) (length frame) (contents m.later) (omega (arith, ap length framed, frame_long gates m.first))
          (right ∙ ap₂ (λ (z : ℕ) (xs : List ℕ). places_test z (length frame) xs) sized far)

      left : (x y : Bool) → x ≡ equal_test k gates shelf (occurrence_of m) (additions k n gates e (occurrence_of m)) → y ≡ moves_front k (is_chosen (occurrence_of m)) [] (drop m.first gates)
          → (x && y) ≡ rules
      left x y ex ey = ap₂ ◌&&◌ ex ey ∙ ap₂ (λ (a b : Bool). a && (b && rest)) turns right ∙ sym tests

      pub not_extended : None ≡ turned_by k e (occurrence_of m) (additions k n gates e (occurrence_of m)) → false ≡ rules
      not_extended h = left false _ (equal_none k gates shelf (occurrence_of m) e is (additions k n gates e (occurrence_of m)) h) refl

      -- the gates at the distances, and whether they are the first of an extended template
      module _ (chosen : List Gate) (held : chosen ≡ at_places frame ds) where
        pub at_their_places : chosen ≡ at_places gates (places (occurrence_of m))
        at_their_places = held ∙ ap (at_places frame) far ∙ frame_places gates frame m.first (contents m.later) framed placed_right.near

        module _ (xs : List Placed) (h : Some xs ≡ turned_by k e (occurrence_of m) (additions k n gates e (occurrence_of m))) where
          abbrev are_first : Bool
          are_first = same_list same_gate chosen (take (length chosen) (gates_of xs))

          abbrev can_move : Bool
          can_move = moves_front k (has_number_lem ds) [] frame

          stand : (are_first && can_move) ≡ rules
          stand =
              let long : length chosen ≡ length (places (occurrence_of m)) = ap length at_their_places ∙ length-map (places (occurrence_of m)) (λ q. get_or gates q (gate 0 0 0 0)) in
              left are_first can_move
              (ap₂ (λ (gs : List Gate) (j : ℕ). same_list same_gate gs (take j (gates_of xs))) at_their_places long
              ∙ equal_some k gates shelf (occurrence_of m) e is (additions k n gates e (occurrence_of m)) xs h)
              (ap (λ (qs : List ℕ). moves_front k (has_number_lem qs) [] frame) far ∙ moves_are k gates frame m.first m.number (occurrence_of m).turn (contents m.later) framed placed_right)

          pub not_first : false ≡ are_first → false ≡ rules
          not_first no-first = ap (λ (b : Bool). b && can_move) no-first ∙ stand

          pub first_move : true ≡ are_first → (set : ℕ) → ((i : ℕ) → i < 32 → bit set i ≡ has_number_lem ds i) → moves_front k (bit set) [] frame ≡ rules
          first_move first set is-set =
              moves_same k (bit set) (has_number_lem ds) [] frame (λ i lt. is-set i (omega (arith, ap length framed, frame_long gates m.first)))
              ∙ ap (λ (b : Bool). b && can_move) first
              ∙ stand
