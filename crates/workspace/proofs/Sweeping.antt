-- What a replacement keeps, where nothing can occur after it, and rows of sweeps.
use Rattle.std.proofs.Common.{◌≡◌, ℕ, zero, suc, ◌+◌, ◌-◌, ◌<◌, ◌≤◌, min, ◌⊎◌, List, ◌∷◌, ◌++◌, map, length, get_or, take, drop, set, Some, sym, refl, ap, ◌∙◌, subst, inl, inr, arith}
use Rattle.std.proofs.ByRecursion.{All-set, All-get_or}
use Rattle.std.proofs.lemmas.List.{map-set, get_or-map, set-get_or, length-set, length-map, length-take-le, drop-take, take-append-le, take-take}
use Rattle.std.proofs.lemmas.Bool.{cases_lt}
use Rattle.gates.specs.declared.gate.Gate.{Gate}
use Rattle.gates.specs.Kinds.{KindMeaning, KindLaws}
use Rattle.search.specs.Policy.{PolicyMeaning}
use Rattle.search.specs.Listing.{Lowest, StartsFrom}
use Rattle.workspace.specs.declared.replacement.Replacement.{Replacement}
use Rattle.workspace.specs.Templates.{TemplateMeaning, MeetsRules}
use Rattle.workspace.specs.Conditions.{Condition, EntryMeaning, Sound, counted_once, no_entry}
use Rattle.workspace.specs.Occurrences.{Occurrence, OccursAs, key_of, template_on, after_replacing, saved}
use Rattle.workspace.specs.Matching.{OccursIn, frame_at}
use Rattle.workspace.specs.Sweeps.{Replaced, Swept, Shortened, Sweeps, after_occurrence, templates_on}
use Rattle.workspace.proofs.Occurring.{replacing_laws}
use Rattle.workspace.proofs.Locality.{same_frame}

-- one more replacement counted leaves the templates
counted_templates : (shelf : List EntryMeaning) (i : ℕ) → i < length shelf → templates_on (set shelf i (counted_once (get_or shelf i no_entry))) ≡ templates_on shelf
counted_templates shelf i lt =
    let f = λ (e : EntryMeaning). e.template in
    map-set f shelf i (counted_once (get_or shelf i no_entry))
    ∙ ap (set (map f shelf) i) (sym (get_or-map f shelf i no_entry no_entry.template lt))
    ∙ set-get_or (map f shelf) i no_entry.template

-- where the templates are the same, so is the template of a number on the shelf
same_template : (shelf other : List EntryMeaning) (o : Occurrence) → templates_on other ≡ templates_on shelf → o.number < length shelf → template_on other o ≡ template_on shelf o
same_template shelf other o same lt =
    let f = λ (e : EntryMeaning). e.template in
    let long : length other ≡ length shelf = sym (length-map other f) ∙ ap length same ∙ length-map shelf f in
    sym (get_or-map f other o.number no_entry no_entry.template (omega arith))
    ∙ ap (λ (ts : List TemplateMeaning). get_or ts o.number no_entry.template) same
    ∙ get_or-map f shelf o.number no_entry no_entry.template lt

module _ (k : KindMeaning) (laws : KindLaws k) where
  -- the template of an occurrence in a sound workspace meets the rules
  pub meets : (c : Condition) (o : Occurrence) → Sound k c → o.number < length c.shelf → MeetsRules k (template_on c.shelf o)
  meets c o sound lt = All-get_or (λ (e : EntryMeaning). MeetsRules k e.template) c.shelf o.number no_entry lt sound.templates

  -- what the replacement of an occurrence keeps and saves
  pub shortens : (c : Condition) (o : Occurrence) → Sound k c → (is : OccursAs k c.store.lines c.store.gates c.shelf o)
      → Shortened k c (after_occurrence k c o is.adds) (saved (template_on c.shelf o) o) × (1 ≤ saved (template_on c.shelf o) o)
  shortens c o sound is =
      let m = meets c o sound is.listed in
      let r = replacing_laws k laws c.store.lines c.store.gates c.shelf o sound.gates m is in (
        record {
          function = r.function;
          sound = record { gates = r.formed; templates = All-set (λ (e : EntryMeaning). MeetsRules k e.template) c.shelf o.number (counted_once (get_or c.shelf o.number no_entry)) m sound.templates };
          sum = r.sum;
          lines = refl;
          capacity = refl;
          outside = refl;
          templates = counted_templates c.shelf o.number is.listed;
        },
        r.some,
      )

  pub replaced_shortens : (before : Condition) (key : List ℕ) (answer : Replacement) (now : Condition) → Sound k before → Replaced k before key answer now
      → Shortened k before now answer.saved × (1 ≤ answer.saved)
  replaced_shortens before key answer now sound r =
      let both = shortens before r.occurrence sound r.rules in (
        subst (λ (n : ℕ). Shortened k before now n) (sym r.saves) (subst (λ (x : Condition). Shortened k before x (saved (template_on before.shelf r.occurrence) r.occurrence)) (sym r.leaves) both.0),
        omega (arith, both.1, r.saves),
      )

-- nothing changed, nothing saved
pub unshortened : (k : KindMeaning) (c : Condition) → Sound k c → Shortened k c c 0
unshortened k c sound = record { function = λ s. refl; sound = sound; sum = omega arith; lines = refl; capacity = refl; outside = refl; templates = refl }

-- one after another
pub shortened_more : (k : KindMeaning) (a b c : Condition) (m n : ℕ) → Shortened k a b m → Shortened k b c n → Shortened k a c (m + n)
shortened_more k a b c m n one two = record {
  function = λ s. two.function s ∙ one.function s;
  sound = two.sound;
  sum = omega (arith, one.sum, two.sum);
  lines = two.lines ∙ one.lines;
  capacity = two.capacity ∙ one.capacity;
  outside = two.outside ∙ one.outside;
  templates = two.templates ∙ one.templates;
}

-- the frame of a place that lies far enough before where the lists begin to differ
early_frame : (gates rest : List Gate) (p v : ℕ) → v + 32 ≤ p → p ≤ length gates → frame_at (take p gates ++ rest) v ≡ frame_at gates v
early_frame gates rest p v le within =
    sym (drop-take v 32 (take p gates ++ rest))
    ∙ ap (drop v) (take-append-le (v + 32) (take p gates) rest (omega (arith, length-take-le p gates within)) ∙ take-take (v + 32) p gates le)
    ∙ drop-take v 32 gates

-- nothing occurs below the first place where something did, nor from which the replaced gates were out of reach
pub nothing_below : (k : KindMeaning) (before : Condition) (key : List ℕ) (answer : Replacement) (now : Condition) (low from : ℕ) → Replaced k before key answer now
    → Lowest (OccursIn k before) low → from ≡ min low (answer.place - 31) → StartsFrom (OccursIn k now) from
nothing_below k before key answer now low from r lowest is v rest there =
    subst (λ (n : ℕ). n ≤ v) (sym is) (at (cases_lt v (min low (answer.place - 31))))
  where
    o : Occurrence
    o = r.occurrence

    in_after : OccursIn k (after_occurrence k before o r.rules.adds) (v ∷ rest)
    in_after = subst (λ (c : Condition). OccursIn k c (v ∷ rest)) r.leaves there

    at : (v < min low (answer.place - 31)) ⊎ (min low (answer.place - 31) ≤ v) → min low (answer.place - 31) ≤ v
    at (inr le) = le
    at (inl lt) =
        let x = in_after.occurrence in
        let first : v ≡ x.first = let e : (v ∷ rest) ≡ key_of x = in_after.named in cc in
        let shelf = before.shelf in
        let i = o.number in
        let same = counted_templates shelf i r.rules.listed in
        let other = set shelf i (counted_once (get_or shelf i no_entry)) in
        let long : length other ≡ length shelf = length-set shelf i (counted_once (get_or shelf i no_entry)) in
        let listed : x.number < length shelf = omega (arith, in_after.rules.listed) in
        let far : x.first + 32 ≤ o.first = omega (arith, r.place, first) in
        let p-in : o.first ≤ length before.store.gates = omega (arith, r.rules.inside.0) in
        let was : OccursAs k before.store.lines before.store.gates shelf x =
        same_frame k before.store.lines (after_replacing k before.store.gates (template_on shelf o) o r.rules.adds) before.store.gates other shelf x
        (sym (early_frame before.store.gates _ o.first x.first far p-in)) (sym long) (sym (same_template shelf other x same listed)) in_after.rules in
        let here : OccursIn k before (v ∷ rest) = record { occurrence = x; named = in_after.named; rules = was } in
        absurd (let z : ⊥ = omega (arith, lowest.below v rest here) in z)

-- one more sweep that replaces, behind a row of them
pub sweeps_more : (k : KindMeaning) (rule : PolicyMeaning) (r saves : ℕ) (a b c : Condition) (answer : Replacement) → Sweeps k rule r saves a b → Swept k rule b (Some answer) c
    → Sweeps k rule (suc r) (saves + answer.saved) a c
sweeps_more k rule zero saves a b c answer row one =
    (answer, c, 0, subst (λ (x : Condition). Swept k rule x (Some answer) c) row.1 one, omega (arith, row.0), (refl, refl))
sweeps_more k rule (suc r) saves a b c answer row one =
    (row.0, row.1, row.2 + answer.saved, row.3, omega (arith, row.4), sweeps_more k rule r row.2 row.1 b c answer row.5 one)
