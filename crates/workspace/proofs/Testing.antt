-- The rules of an occurrence, tested in the frame.
use Rattle.std.proofs.Common.{◌≡◌, ℕ, suc, ◌+◌, ◌-◌, ◌*◌, ◌<◌, ◌≤◌, min, Bool, true, false, ◌&&◌, ◌||◌, eqb, ltb, leb, ◌⊎◌, List, [], ◌∷◌, map, length, take, drop, Some, None, Option, sym, refl, ap, ◌∙◌, ap₂, inl, inr, arith}
use Rattle.std.specs.List.{AllByRecursion}
use mathlib.Core.Path.{fun_ext}
use Rattle.std.proofs.lemmas.List.{length-map, length-take, length-drop}
use Rattle.std.proofs.Math.Bool.{and_assoc}
use Rattle.std.proofs.lemmas.Bool.{cases_lt, cases_eq, lt-ltb, le-ltb, le-leb, lt-leb, ltb-true, eq-eqb, ne_eqb, and_from, and_left, and_right, and_parts}
use Rattle.gates.specs.declared.gate.Gate.{Gate}
use Rattle.gates.specs.Kinds.{KindMeaning}
use Rattle.workspace.specs.Templates.{TemplateMeaning, size}
use Rattle.workspace.specs.TemplateTests.{all_pass}
use Rattle.workspace.specs.Turns.{Turn, Placed, gates_of, Added, turned_template}
use Rattle.workspace.specs.TurnTests.{has_number_lem, turn_test}
use Rattle.workspace.specs.Conditions.{EntryMeaning}
use Rattle.workspace.specs.Occurrences.{Occurrence, places, template_on, at_places, additions, moves_front, is_chosen, Rising}
use Rattle.workspace.specs.OccurrenceTests.{same_gate, same_list, rising_test, equal_test, rules_test}
use Rattle.workspace.specs.Matching.{frame_at}
use Rattle.workspace.specs.Extensions.{turned_by}
use Rattle.workspace.specs.Choices.{places_test}
use Rattle.workspace.proofs.DecidingOccurrences.{rising_true}
use Rattle.workspace.proofs.Locality.{near_places, frame_moves}

-- the occurrence with these distances
abbrev pub occurrence_at : ℕ → ℕ → Turn → List ℕ → Occurrence
occurrence_at p t u ds = record { first = p; number = t; turn = u; later = map (λ d. p + d) ds }

-- how many gates a frame has
pub frame_long : (gates : List Gate) (first : ℕ) → length (frame_at gates first) ≡ min 32 (length gates - first)
frame_long gates first = length-take 32 (drop first gates) ∙ ap (min 32) (length-drop first gates)

-- a place is in the list and near where its distance is in the frame
module _ (gates : List Gate) (p count : ℕ) (long : count ≡ min 32 (length gates - p)) where
  in_frame : (d : ℕ) → ltb d count ≡ (ltb (p + d) (length gates) && leb (p + d) (p + 31))
  in_frame d = at (cases_lt d count)
    where
      out : (p + d < length gates) ⊎ (length gates ≤ p + d) → count ≤ d → (ltb (p + d) (length gates) && leb (p + d) (p + 31)) ≡ false
      out (inl inside) ge = and_right (ltb (p + d) (length gates)) (leb (p + d) (p + 31)) (lt-leb (p + d) (p + 31) (omega arith))
      out (inr past) ge = and_left (ltb (p + d) (length gates)) (leb (p + d) (p + 31)) (le-ltb (p + d) (length gates) past)

      at : (d < count) ⊎ (count ≤ d) → ltb d count ≡ (ltb (p + d) (length gates) && leb (p + d) (p + 31))
      at (inl lt) = lt-ltb d count lt ∙ sym (and_from (ltb (p + d) (length gates)) (leb (p + d) (p + 31)) (lt-ltb (p + d) (length gates) (omega arith)) (le-leb (p + d) (p + 31) (omega arith)))
      at (inr ge) = le-ltb d count ge ∙ sym (out (cases_lt (p + d) (length gates)) ge)

  all_in : (ds : List ℕ) → all_pass (λ d. ltb d count) ds ≡ (all_pass (λ q. ltb q (length gates)) (map (λ d. p + d) ds) && all_pass (λ q. leb q (p + 31)) (map (λ d. p + d) ds))
  all_in [] = refl
  all_in (d ∷ ds) =
      ap₂ ◌&&◌ (in_frame d) (all_in ds)
      ∙ shuffle (ltb (p + d) (length gates)) (leb (p + d) (p + 31)) (all_pass (λ q. ltb q (length gates)) (map (λ d. p + d) ds)) (all_pass (λ q. leb q (p + 31)) (map (λ d. p + d) ds))
    where
      shuffle : (a b x y : Bool) → ((a && b) && (x && y)) ≡ ((a && x) && (b && y))
      shuffle true true x y = refl
      shuffle true false true y = refl
      shuffle true false false y = refl
      shuffle false b x y = refl

  first_in : ltb 0 count ≡ ltb p (length gates)
  first_in = at (cases_lt 0 count)
    where
      at : (0 < count) ⊎ (count ≤ 0) → ltb 0 count ≡ ltb p (length gates)
      at (inl lt) = lt-ltb 0 count lt ∙ sym (lt-ltb p (length gates) (omega arith))
      at (inr ge) = le-ltb 0 count ge ∙ sym (le-ltb p (length gates) (omega arith))

  places_in : (ds : List ℕ) → (all_pass (λ q. ltb q (length gates)) (p ∷ map (λ d. p + d) ds) && all_pass (λ q. leb q (p + 31)) (map (λ d. p + d) ds)) ≡ (ltb 0 count && all_pass (λ d. ltb d count) ds)
  places_in ds =
      and_assoc (ltb p (length gates)) (all_pass (λ q. ltb q (length gates)) (map (λ d. p + d) ds)) (all_pass (λ q. leb q (p + 31)) (map (λ d. p + d) ds))
      ∙ ap₂ ◌&&◌ (sym first_in) (sym (all_in ds))

-- places rise where their distances do
rising_at : (p q : ℕ) (ds : List ℕ) → rising_test (suc (p + q)) (map (λ d. p + d) ds) ≡ rising_test (suc q) ds
rising_at p q [] = refl
rising_at p q (d ∷ ds) = ap₂ ◌&&◌ (at (cases_lt q d)) (rising_at p d ds)
  where
    at : (q < d) ⊎ (d ≤ q) → leb (suc (p + q)) (p + d) ≡ leb (suc q) d
    at (inl lt) = le-leb (suc (p + q)) (p + d) (omega arith) ∙ sym (le-leb (suc q) d (omega arith))
    at (inr ge) = lt-leb (suc (p + q)) (p + d) (omega arith) ∙ sym (lt-leb (suc q) d (omega arith))

pub rising_from : (p : ℕ) (ds : List ℕ) → rising_test (suc p) (map (λ d. p + d) ds) ≡ rising_test 1 ds
rising_from p ds = ap (λ (q : ℕ). rising_test (suc q) (map (λ d. p + d) ds)) (let e : p ≡ p + 0 = omega arith in e) ∙ rising_at p 0 ds

module _ (k : KindMeaning) (n : ℕ) (gates : List Gate) (shelf : List EntryMeaning) (e : TemplateMeaning) (p t : ℕ) (u : Turn) (count : ℕ) (ds : List ℕ)
    (listed : t < length shelf) (is : template_on shelf (occurrence_at p t u ds) ≡ e) (long : count ≡ min 32 (length gates - p)) where
  -- the rules, with the tests of the places in one
  pub rules_are : rules_test k n gates shelf (occurrence_at p t u ds)
      ≡ (turn_test k n e u
      && (places_test (size e) count (0 ∷ ds)
      && (equal_test k gates shelf (occurrence_at p t u ds) (additions k n gates e (occurrence_at p t u ds)) && moves_front k (is_chosen (occurrence_at p t u ds)) [] (drop p gates))))
  rules_are =
      let o = occurrence_at p t u ds in
      let qs = map (λ d. p + d) ds in
      let inside = all_pass (λ q. ltb q (length gates)) (p ∷ qs) in
      let near = all_pass (λ q. leb q (p + 31)) qs in
      let moves = moves_front k (is_chosen o) [] (drop p gates) in
      let all : suc (length qs) ≡ suc (length ds) = ap suc (length-map ds (λ d. p + d)) in
      let rest = equal_test k gates shelf o (additions k n gates e o) && moves in
      ap (λ (b : Bool). b && (turn_test k n (template_on shelf o) u && (ltb (size (template_on shelf o)) (2 * suc (length qs)) && (leb (suc (length qs)) (size (template_on shelf o))
      && (rising_test (suc p) qs && (inside && (near && (equal_test k gates shelf o (additions k n gates (template_on shelf o) o) && moves)))))))) (lt-ltb t (length shelf) listed)
      ∙ ap (λ (x : TemplateMeaning). turn_test k n x u && (ltb (size x) (2 * suc (length qs)) && (leb (suc (length qs)) (size x)
      && (rising_test (suc p) qs && (inside && (near && (equal_test k gates shelf o (additions k n gates x o) && moves))))))) is
      ∙ ap (λ (b : Bool). turn_test k n e u && b)
      (gather (ltb (size e) (2 * suc (length qs))) (leb (suc (length qs)) (size e)) (rising_test (suc p) qs) inside near rest
      ∙ ap₂ (λ (m : ℕ) (b : Bool). (ltb (size e) (2 * m) && (leb m (size e) && b)) && rest) all (ap₂ ◌&&◌ (rising_from p ds) (places_in gates p count long ds)))
    where
      gather : (a b r i m z : Bool) → (a && (b && (r && (i && (m && z))))) ≡ ((a && (b && (r && (i && m)))) && z)
      gather true true true true m z = refl
      gather true true true false m z = refl
      gather true true false i m z = refl
      gather true false r i m z = refl
      gather false b r i m z = refl

-- what the places have where they pass
pub near_from : (p count : ℕ) (ds : List ℕ) → count ≤ 32 → all_pass (λ d. ltb d count) ds ≡ true → AllByRecursion (λ q. q ≤ p + 31) (map (λ d. p + d) ds)
near_from p count [] few h = tt
near_from p count (d ∷ ds) few h =
    let both = and_parts (ltb d count) (all_pass (λ x. ltb x count) ds) h in (omega (arith, ltb-true d count both.0), near_from p count ds few both.1)

pub record PlacedRight (p : ℕ) (ds : List ℕ) : Type 0 where
  pub rising : Rising (suc p) (map (λ d. p + d) ds)
  pub near : AllByRecursion (λ q. q ≤ p + 31) (map (λ d. p + d) ds)

pub places_right : (p m count : ℕ) (ds : List ℕ) → count ≤ 32 → true ≡ places_test m count (0 ∷ ds) → PlacedRight p ds
places_right p m count ds few h =
    let a = and_parts (ltb m (2 * suc (length ds))) _ (sym h) in
    let b = and_parts (leb (suc (length ds)) m) _ a.1 in
    let c = and_parts (rising_test 1 ds) (ltb 0 count && all_pass (λ d. ltb d count) ds) b.1 in
    let d = and_parts (ltb 0 count) (all_pass (λ d. ltb d count) ds) c.1 in
    record { rising = rising_true (suc p) (map (λ d. p + d) ds) (rising_from p ds ∙ c.0); near = near_from p count ds few d.1 }

-- a place is chosen where its distance is
module _ (p : ℕ) where
  has_at : (d i : ℕ) → eqb (p + d) (p + i) ≡ eqb d i
  has_at d i = at (cases_eq d i)
    where
      at : (d ≡ i) ⊎ (d ≡ i → ⊥) → eqb (p + d) (p + i) ≡ eqb d i
      at (inl e) = eq-eqb (p + d) (p + i) (omega arith) ∙ sym (eq-eqb d i e)
      at (inr ne) = ne_eqb (p + d) (p + i) (λ e. ne (omega arith)) ∙ sym (ne_eqb d i ne)

  has_all : (ds : List ℕ) (i : ℕ) → has_number_lem (map (λ d. p + d) ds) (p + i) ≡ has_number_lem ds i
  has_all [] i = refl
  has_all (d ∷ ds) i = ap₂ ◌||◌ (has_at d i) (has_all ds i)

  pub chosen_are : (ds : List ℕ) → (λ (i : ℕ). has_number_lem (p ∷ map (λ d. p + d) ds) (p + i)) ≡ has_number_lem (0 ∷ ds)
  chosen_are ds = fun_ext λ i. ap₂ ◌||◌ (ap (λ (q : ℕ). eqb q (p + i)) (let e : p ≡ p + 0 = omega arith in e) ∙ has_at 0 i) (has_all ds i)

-- the chosen gates move to the front where they do so in the frame
pub moves_are : (k : KindMeaning) (gates frame : List Gate) (p t : ℕ) (u : Turn) (ds : List ℕ) → frame ≡ frame_at gates p → PlacedRight p ds
    → moves_front k (has_number_lem (0 ∷ ds)) [] frame ≡ moves_front k (is_chosen (occurrence_at p t u ds)) [] (drop p gates)
moves_are k gates frame p t u ds is right =
    let o = occurrence_at p t u ds in
    ap₂ (λ (c : ℕ → Bool) (xs : List Gate). moves_front k c [] xs) (sym (chosen_are p ds)) is ∙ frame_moves k gates o (near_places o right.rising right.near)

-- the chosen gates against the turned and extended template
module _ (k : KindMeaning) (gates : List Gate) (shelf : List EntryMeaning) (o : Occurrence) (e : TemplateMeaning) (is : template_on shelf o ≡ e) where
  pub equal_none : (r : Option (List Added)) → None ≡ turned_by k e o r → false ≡ equal_test k gates shelf o r
  equal_none None h = refl
  equal_none (Some adds) h = absurd (let z : ◌≡◌ {A = ℕ} 0 1 = cc in omega arith)

  pub equal_some : (r : Option (List Added)) (xs : List Placed) → Some xs ≡ turned_by k e o r
      → same_list same_gate (at_places gates (places o)) (take (length (places o)) (gates_of xs)) ≡ equal_test k gates shelf o r
  equal_some None xs h = absurd (let z : ◌≡◌ {A = ℕ} 0 1 = cc in omega arith)
  equal_some (Some adds) xs h =
      let same : xs ≡ turned_template k e o.turn adds = cc in
      ap (λ (ys : List Placed). same_list same_gate (at_places gates (places o)) (take (length (places o)) (gates_of ys))) same
      ∙ ap (λ (x : TemplateMeaning). same_list same_gate (at_places gates (places o)) (take (length (places o)) (gates_of (turned_template k x o.turn adds)))) (sym is)
