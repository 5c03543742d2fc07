-- Keys that can be read are those that occurrences can have.
use Rattle.std.proofs.Common.{◌≡◌, ℕ, suc, ◌+◌, ◌-◌, ◌<◌, ◌≤◌, Bool, true, false, cond, ◌&&◌, eqb, ltb, leb, ◌⊎◌, List, [], ◌∷◌, ◌++◌, map, length, get_or, take, drop, Some, None, Option, sym, refl, ap, ◌∙◌, ap₂, inl, inr, arith}
use Rattle.std.specs.List.{AllByRecursion}
use Rattle.std.specs.Option.{MatchOption}
use Rattle.std.proofs.lemmas.List.{length-map, length-drop, length-append, take_at, take-append-drop}
use Rattle.std.proofs.ByRecursion.{All-get_or}
use Rattle.std.proofs.lemmas.Bool.{lt-ltb, le-leb, leb-true, eqb-true, eq-eqb, and_from, and_parts, cases_eq, ne_eqb}
use Rattle.gates.specs.declared.gate.Gate.{Gate}
use Rattle.gates.specs.Kinds.{KindMeaning}
use Rattle.workspace.specs.declared.named.Named.{Named}
use Rattle.workspace.specs.Templates.{MeetsRules}
use Rattle.workspace.specs.TemplateTests.{all_pass}
use Rattle.workspace.specs.Conditions.{EntryMeaning, no_entry}
use Rattle.workspace.specs.Occurrences.{Occurrence, key_of, template_on, OccursAs}
use Rattle.workspace.specs.OccurrenceTests.{same_list, rules_test, named_by, named_test, occurs_test}
use Rattle.workspace.specs.Naming.{named_of, occurrence_of, spelled, readable}
use Rattle.workspace.proofs.DecidingOccurrences.{same_self, all_passes, decides_occurrences}

-- the key of an occurrence can be read
module _ (k : KindMeaning) (n : ℕ) (gates : List Gate) (shelf : List EntryMeaning) where
  occurrence_readable : (o : Occurrence) → OccursAs k n gates shelf o → MeetsRules k (template_on shelf o) → readable (template_on shelf o).lines (key_of o) ≡ true
  occurrence_readable o is meets =
      let l = (template_on shelf o).lines in
      let table = o.turn.table in
      let far = map (λ q. q - o.first) o.later in
      let long : length table ≡ l = is.turn.maps.long in
      let whole : length (table ++ far) ≡ l + length o.later = length-append table far ∙ omega (arith, length-map o.later (λ q. q - o.first)) in
      let few : suc (length o.later) ≤ 8 = omega (arith, is.within, meets.size.1) in
      and_from (leb l 4) _ (le-leb l 4 meets.lines.1)
      (and_from (leb (6 + l) (length (key_of o))) _ (le-leb (6 + l) (length (key_of o)) (omega arith))
      (and_from (eqb (8 - suc (length o.later) + length (key_of o)) (13 + l)) _ (eq-eqb (8 - suc (length o.later) + length (key_of o)) (13 + l) (omega arith))
      (and_from (leb (cond o.turn.back 1 0) 1) _ (direction o.turn.back)
      (ap (all_pass (λ x. ltb x 256)) (take_at table far l long)
      ∙ all_passes (λ x. ltb x 256) (λ x. x < n) (λ x lt. lt-ltb x 256 (omega (arith, is.turn.maps.few))) table is.turn.maps.below))))
    where
      direction : (b : Bool) → leb (cond b 1 0) 1 ≡ true
      direction true = refl
      direction false = refl

  -- a key that occurs can be read
  occurring_readable : AllByRecursion (λ (e : EntryMeaning). MeetsRules k e.template) shelf → (key : List ℕ) (l : ℕ) → (get_or shelf (get_or key 1 0) no_entry).template.lines ≡ l → readable l key ≡ false
      → false ≡ occurs_test k n gates shelf key
  occurring_readable meets key l lines un = at (occurs_test k n gates shelf key) refl
    where
      at : (b : Bool) → occurs_test k n gates shelf key ≡ b → false ≡ occurs_test k n gates shelf key
      at false e = sym e
      at true e =
          let s = (decides_occurrences k n gates shelf key).0 e in
          let o = s.occurrence in
          let meet : MeetsRules k (template_on shelf o) = All-get_or (λ (e : EntryMeaning). MeetsRules k e.template) shelf o.number no_entry s.rules.listed meets in
          let same : (template_on shelf o).lines ≡ l = sym (ap (λ (ks : List ℕ). (get_or shelf (get_or ks 1 0) no_entry).template.lines) s.named) ∙ lines in
          let can : readable l key ≡ true = ap₂ readable (sym same) s.named ∙ occurrence_readable o s.rules meet in
          absurd (let z : ◌≡◌ {A = ℕ} 0 1 = cc in omega arith)

-- what a key names
pub named_spelled : (shelf : List EntryMeaning) (key : List ℕ) (l : ℕ) → (get_or shelf (get_or key 1 0) no_entry).template.lines ≡ l → 6 ≤ length key → named_by shelf key ≡ Some (spelled l key)
named_spelled shelf [] l is long = absurd (let z : ⊥ = omega arith in z)
named_spelled shelf (p ∷ []) l is long = absurd (let z : ⊥ = omega arith in z)
named_spelled shelf (p ∷ t ∷ []) l is long = absurd (let z : ⊥ = omega arith in z)
named_spelled shelf (p ∷ t ∷ c ∷ []) l is long = absurd (let z : ⊥ = omega arith in z)
named_spelled shelf (p ∷ t ∷ c ∷ b ∷ []) l is long = absurd (let z : ⊥ = omega arith in z)
named_spelled shelf (p ∷ t ∷ c ∷ b ∷ r ∷ []) l is long = absurd (let z : ⊥ = omega arith in z)
named_spelled shelf (p ∷ t ∷ c ∷ b ∷ r ∷ f ∷ rest) l is long = ap (λ (m : ℕ). Some (spelled m (p ∷ t ∷ c ∷ b ∷ r ∷ f ∷ rest))) is

-- distances lead to places and back
back_from : (p : ℕ) (ds : List ℕ) → map (λ q. q - p) (map (λ d. p + d) ds) ≡ ds
back_from p [] = refl
back_from p (d ∷ ds) = ap₂ ◌∷◌ (let e : p + d - p ≡ d = omega arith in e) (back_from p ds)

direction_back : (b : ℕ) → b ≤ 1 → cond (eqb b 1) 1 0 ≡ b
direction_back b le = at (cases_eq b 1)
  where
    at : (b ≡ 1) ⊎ (b ≡ 1 → ⊥) → cond (eqb b 1) 1 0 ≡ b
    at (inl e) = ap (λ (x : Bool). cond x 1 0) (eq-eqb b 1 e) ∙ sym e
    at (inr ne) = ap (λ (x : Bool). cond x 1 0) (ne_eqb b 1 ne) ∙ (let e : 0 ≡ b = omega arith in e)

-- what can be read of a key
pub record Read (l : ℕ) (key : List ℕ) : Type 0 where
  pub lines : l ≤ 4
  pub long : 6 + l ≤ length key
  pub count : get_or key 2 0 + length key ≡ 13 + l
  pub direction : get_or key 3 0 ≤ 1

pub reading : (l : ℕ) (key : List ℕ) → readable l key ≡ true → Read l key
reading l key h =
    let a = and_parts (leb l 4) _ h in
    let b = and_parts (leb (6 + l) (length key)) _ a.1 in
    let c = and_parts (eqb (get_or key 2 0 + length key) (13 + l)) _ b.1 in
    let d = and_parts (leb (get_or key 3 0) 1) _ c.1 in
    record {
      lines = leb-true l 4 a.0;
      long = leb-true (6 + l) (length key) b.0;
      count = eqb-true (get_or key 2 0 + length key) (13 + l) c.0;
      direction = leb-true (get_or key 3 0) 1 d.0;
    }

-- the key that can be read is that of what it names
key_spelled : (l : ℕ) (key : List ℕ) → Read l key → key_of (spelled l key) ≡ key
key_spelled l [] h = absurd (let z : ⊥ = omega (arith, h.long) in z)
key_spelled l (p ∷ []) h = absurd (let z : ⊥ = omega (arith, h.long) in z)
key_spelled l (p ∷ t ∷ []) h = absurd (let z : ⊥ = omega (arith, h.long) in z)
key_spelled l (p ∷ t ∷ c ∷ []) h = absurd (let z : ⊥ = omega (arith, h.long) in z)
key_spelled l (p ∷ t ∷ c ∷ b ∷ []) h = absurd (let z : ⊥ = omega (arith, h.long) in z)
key_spelled l (p ∷ t ∷ c ∷ b ∷ r ∷ []) h = absurd (let z : ⊥ = omega (arith, h.long) in z)
key_spelled l (p ∷ t ∷ c ∷ b ∷ r ∷ f ∷ rest) h =
    let far = map (λ d. p + d) (drop l rest) in
    let eight : 8 - suc (length far) ≡ c = omega (arith, length-map (drop l rest) (λ d. p + d), length-drop l rest, h.count, h.long) in
    let whole : take l rest ++ map (λ q. q - p) far ≡ rest = ap (λ (xs : List ℕ). take l rest ++ xs) (back_from p (drop l rest)) ∙ take-append-drop l rest in
    ap₂ (λ (x : ℕ) (y : ℕ). p ∷ t ∷ x ∷ y ∷ r ∷ f ∷ (take l rest ++ map (λ q. q - p) far)) eight (direction_back b h.direction)
    ∙ ap (λ (xs : List ℕ). p ∷ t ∷ c ∷ b ∷ r ∷ f ∷ xs) whole

-- so the test of the key is that of the rules
occurring_named : (k : KindMeaning) (n : ℕ) (gates : List Gate) (shelf : List EntryMeaning) (key : List ℕ) (l : ℕ) → (get_or shelf (get_or key 1 0) no_entry).template.lines ≡ l → readable l key ≡ true
    → rules_test k n gates shelf (spelled l key) ≡ occurs_test k n gates shelf key
occurring_named k n gates shelf key l is can =
    let h = reading l key can in
    sym (ap (named_test k n gates shelf key) (named_spelled shelf key l is (omega (arith, h.long)))
    ∙ ap (λ (b : Bool). b && rules_test k n gates shelf (spelled l key))
    (ap (same_list eqb key) (key_spelled l key h) ∙ same_self eqb (λ x. eq-eqb x x refl) key))

-- what was read
read_none : (l : ℕ) (key : List ℕ) → None ≡ cond (readable l key) (Some (spelled l key)) None → readable l key ≡ false
read_none l key = at (readable l key)
  where
    at : (b : Bool) → None ≡ cond b (Some (spelled l key)) None → b ≡ false
    at false e = refl
    at true e = absurd (let z : ◌≡◌ {A = ℕ} 0 1 = cc in omega arith)

read_some : (l : ℕ) (key : List ℕ) (o : Occurrence) → Some o ≡ cond (readable l key) (Some (spelled l key)) None → (readable l key ≡ true) × (o ≡ spelled l key)
read_some l key o = at (readable l key)
  where
    at : (b : Bool) → Some o ≡ cond b (Some (spelled l key)) None → (b ≡ true) × (o ≡ spelled l key)
    at true e = (refl, cc)
    at false e = absurd (let z : ◌≡◌ {A = ℕ} 0 1 = cc in omega arith)

-- a test of what the key is read as, which is of the rules of what is named, is that of the key
module _ (k : KindMeaning) (n : ℕ) (gates : List Gate) (shelf : List EntryMeaning) (key : List ℕ) (l : ℕ) (lines : (get_or shelf (get_or key 1 0) no_entry).template.lines ≡ l) where
  pub decoded_test : AllByRecursion (λ (e : EntryMeaning). MeetsRules k e.template) shelf → (r : Option Named) (b : Bool) (Q : Named → Type 0) → named_of r ≡ cond (readable l key) (Some (spelled l key)) None
      → ((m : Named) → m.first ≡ get_or key 0 0 → m.number ≡ get_or key 1 0 → Q m → b ≡ rules_test k n gates shelf (occurrence_of m)) → MatchOption r (b ≡ false) Q → b ≡ occurs_test k n gates shelf key
  decoded_test meets None b Q is each none = none ∙ occurring_readable k n gates shelf meets key l lines (read_none l key is)
  decoded_test meets (Some m) b Q is each called =
      let read = read_some l key (occurrence_of m) is in
      each m (ap (λ (o : Occurrence). o.first) read.1) (ap (λ (o : Occurrence). o.number) read.1) called
      ∙ ap (rules_test k n gates shelf) read.1
      ∙ occurring_named k n gates shelf key l lines read.0
