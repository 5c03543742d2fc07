-- The test of an occurrence decides.
use Rattle.std.proofs.Common.{◌≡◌, ℕ, suc, ◌+◌, ◌-◌, ◌*◌, ◌<◌, ◌≤◌, Bool, true, false, cond, eqb, ltb, leb, List, [], ◌∷◌, map, length, take, Some, None, Option, refl, ap, ◌∙◌, ap₂, arith}
use Rattle.std.specs.List.{AllByRecursion}
use Rattle.std.proofs.lemmas.List.{take_at, drop_at}
use Rattle.std.proofs.lemmas.Bool.{false≢true, and_parts, and_from, eqb-true, eq-eqb, leb-true, le-leb, ltb-true, lt-ltb}
use Rattle.gates.specs.declared.gate.Gate.{Gate}
use Rattle.gates.specs.Controls.{gate}
use Rattle.gates.specs.Kinds.{KindMeaning}
use Rattle.workspace.specs.Templates.{size}
use Rattle.workspace.specs.TemplateTests.{all_pass}
use Rattle.workspace.specs.Turns.{Added, turned_gates}
use Rattle.workspace.specs.Conditions.{EntryMeaning}
use Rattle.workspace.specs.Occurrences.{Occurrence, places, key_of, template_on, at_places, additions, Rising, OccursAs, Occurs}
use Rattle.workspace.specs.OccurrenceTests.{same_gate, same_list, rising_test, equal_test, rules_test, named_by, named_test, occurs_test, OccurrencesDecided}
use Rattle.workspace.proofs.DecidingTurns.{decides_turn}

pub same_gate_true : (g h : Gate) → same_gate g h ≡ true → g ≡ h
same_gate_true g h e =
    let one = and_parts _ _ e in
    let two = and_parts _ _ one.1 in
    let three = and_parts _ _ two.1 in
    λ i. gate (eqb-true g.a h.a one.0 i) (eqb-true g.b h.b two.0 i) (eqb-true g.positive h.positive three.0 i) (eqb-true g.negative h.negative three.1 i)

pub same_gate_self : (g : Gate) → same_gate g g ≡ true
same_gate_self g = and_from _ _ (eq-eqb g.a g.a refl) (and_from _ _ (eq-eqb g.b g.b refl) (and_from _ _ (eq-eqb g.positive g.positive refl) (eq-eqb g.negative g.negative refl)))

-- a direction is read as it is named
pub direction : (b : Bool) → eqb (cond b 1 0) 1 ≡ b
direction true = refl
direction false = refl

module _ {X : Type 0} (same : X → X → Bool) where
  pub same_true : ((x y : X) → same x y ≡ true → x ≡ y) → (xs ys : List X) → same_list same xs ys ≡ true → xs ≡ ys
  same_true h [] [] e = refl
  same_true h [] (y ∷ ys) e = absurd (false≢true e)
  same_true h (x ∷ xs) [] e = absurd (false≢true e)
  same_true h (x ∷ xs) (y ∷ ys) e = let both = and_parts (same x y) (same_list same xs ys) e in ap₂ ◌∷◌ (h x y both.0) (same_true h xs ys both.1)

  pub same_self : ((x : X) → same x x ≡ true) → (xs : List X) → same_list same xs xs ≡ true
  same_self h [] = refl
  same_self h (x ∷ xs) = and_from _ _ (h x) (same_self h xs)

pub rising_true : (q : ℕ) (xs : List ℕ) → rising_test q xs ≡ true → Rising q xs
rising_true q [] h = tt
rising_true q (x ∷ xs) h = let both = and_parts (leb q x) (rising_test (suc x) xs) h in (leb-true q x both.0, rising_true (suc x) xs both.1)

rising_passes : (q : ℕ) (xs : List ℕ) → Rising q xs → rising_test q xs ≡ true
rising_passes q [] h = refl
rising_passes q (x ∷ xs) h = and_from _ _ (le-leb q x h.0) (rising_passes (suc x) xs h.1)

all_true : {X : Type 0} (test : X → Bool) (P : X → Type 0) → ((x : X) → test x ≡ true → P x) → (xs : List X) → all_pass test xs ≡ true → AllByRecursion P xs
all_true test P h [] e = tt
all_true test P h (x ∷ xs) e = let both = and_parts (test x) (all_pass test xs) e in (h x both.0, all_true test P h xs both.1)

pub all_passes : {X : Type 0} (test : X → Bool) (P : X → Type 0) → ((x : X) → P x → test x ≡ true) → (xs : List X) → AllByRecursion P xs → all_pass test xs ≡ true
all_passes test P h [] p = refl
all_passes test P h (x ∷ xs) p = and_from _ _ (h x p.0) (all_passes test P h xs p.1)

module _ (k : KindMeaning) (n : ℕ) (gates : List Gate) (shelf : List EntryMeaning) where
  -- the controls that are added, where the gates at the places are the first turned ones
  pub record Matched (o : Occurrence) (r : Option (List Added)) : Type 0 where
    pub adds : List Added
    pub extension : r ≡ Some adds
    pub equal : at_places gates (places o) ≡ take (length (places o)) (turned_gates k (template_on shelf o) o.turn adds)

  matched : (o : Occurrence) (r : Option (List Added)) → equal_test k gates shelf o r ≡ true → Matched o r
  matched o None e = absurd (false≢true e)
  matched o (Some adds) e = record { adds = adds; extension = refl; equal = same_true same_gate same_gate_true _ _ e }

  matches : (o : Occurrence) (r : Option (List Added)) → Matched o r → equal_test k gates shelf o r ≡ true
  matches o r m =
      ap (equal_test k gates shelf o) m.extension
      ∙ ap (λ (xs : List Gate). same_list same_gate xs (take (length (places o)) (turned_gates k (template_on shelf o) o.turn m.adds))) m.equal
      ∙ same_self same_gate same_gate_self (take (length (places o)) (turned_gates k (template_on shelf o) o.turn m.adds))

  rules_true : (o : Occurrence) → rules_test k n gates shelf o ≡ true → OccursAs k n gates shelf o
  rules_true o h =
      let e = template_on shelf o in
      let a = and_parts _ _ h in
      let b = and_parts _ _ a.1 in
      let c = and_parts _ _ b.1 in
      let d = and_parts _ _ c.1 in
      let f = and_parts _ _ d.1 in
      let i = and_parts _ _ f.1 in
      let j = and_parts _ _ i.1 in
      let l = and_parts _ _ j.1 in
      let m = matched o (additions k n gates e o) l.0 in
      record {
        listed = ltb-true o.number (length shelf) a.0;
        turn = (decides_turn k n e o.turn).0 b.0;
        strict = ltb-true (size e) (2 * length (places o)) c.0;
        within = leb-true (length (places o)) (size e) d.0;
        rising = rising_true (suc o.first) o.later f.0;
        inside = all_true (λ q. ltb q (length gates)) (λ q. q < length gates) (λ q. ltb-true q (length gates)) (places o) i.0;
        near = all_true (λ q. leb q (o.first + 31)) (λ q. q ≤ o.first + 31) (λ q. leb-true q (o.first + 31)) o.later j.0;
        adds = m.adds;
        extension = m.extension;
        equal = m.equal;
        moves = l.1;
      }

  pub rules_pass : (o : Occurrence) → OccursAs k n gates shelf o → rules_test k n gates shelf o ≡ true
  rules_pass o r =
      let e = template_on shelf o in
      and_from _ _ (lt-ltb o.number (length shelf) r.listed)
      (and_from _ _ ((decides_turn k n e o.turn).1 r.turn)
      (and_from _ _ (lt-ltb (size e) (2 * length (places o)) r.strict)
      (and_from _ _ (le-leb (length (places o)) (size e) r.within)
      (and_from _ _ (rising_passes (suc o.first) o.later r.rising)
      (and_from _ _ (all_passes (λ q. ltb q (length gates)) (λ q. q < length gates) (λ q. lt-ltb q (length gates)) (places o) r.inside)
      (and_from _ _ (all_passes (λ q. leb q (o.first + 31)) (λ q. q ≤ o.first + 31) (λ q. le-leb q (o.first + 31)) o.later r.near)
      (and_from _ _ (matches o (additions k n gates e o) record { adds = r.adds; extension = r.extension; equal = r.equal })
      r.moves)))))))

  -- distances lead back to the places
  back_to : (p q : ℕ) (later : List ℕ) → p ≤ q → Rising q later → map (λ d. p + d) (map (λ x. x - p) later) ≡ later
  back_to p q [] le h = refl
  back_to p q (x ∷ later) le h = ap₂ ◌∷◌ (let e : p + (x - p) ≡ x = omega (arith, h.0) in e) (back_to p (suc x) later (omega (arith, h.0)) h.1)

  occurrence : ℕ → ℕ → Bool → ℕ → ℕ → List ℕ → List ℕ → Occurrence
  occurrence p t b r f table later = record { first = p; number = t; turn = record { back = b; rotation = r; flips = f; table = table }; later = later }

  -- a key names the occurrence that it is the key of
  pub named_back : (o : Occurrence) → OccursAs k n gates shelf o → named_by shelf (key_of o) ≡ Some o
  unfolding occurrence
  named_back o r =
      let t = o.turn in
      let lines = (template_on shelf o).lines in
      let distances = map (λ q. q - o.first) o.later in
      let long = r.turn.maps.long in
      λ i. Some (occurrence o.first o.number (direction t.back i) t.rotation t.flips (take_at t.table distances lines long i)
      ((ap (map (λ d. o.first + d)) (drop_at t.table distances lines long) ∙ back_to o.first (suc o.first) o.later (omega arith) r.rising) i))

  told : (key : List ℕ) (r : Option Occurrence) → named_test k n gates shelf key r ≡ true → Occurs k n gates shelf key
  told key None e = absurd (false≢true e)
  told key (Some o) e =
      let both = and_parts (same_list eqb key (key_of o)) (rules_test k n gates shelf o) e in
      record { occurrence = o; named = same_true eqb eqb-true key (key_of o) both.0; rules = rules_true o both.1 }

pub decides_occurrences : (k : KindMeaning) → OccurrencesDecided k
decides_occurrences k n gates shelf key = (told k n gates shelf key (named_by shelf key), passes)
  where
    passes : Occurs k n gates shelf key → occurs_test k n gates shelf key ≡ true
    passes s =
        let o = s.occurrence in
        ap (occurs_test k n gates shelf) s.named
        ∙ ap (named_test k n gates shelf (key_of o)) (named_back k n gates shelf o s.rules)
        ∙ and_from _ _ (same_self eqb (λ x. eq-eqb x x refl) (key_of o)) (rules_pass k n gates shelf o s.rules)
