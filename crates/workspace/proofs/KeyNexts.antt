-- What comes next in the keys of occurrences, number by number.
use Rattle.std.proofs.Common.{◌≡◌, ℕ, suc, ◌+◌, ◌-◌, ◌*◌, ◌^◌, ◌<◌, ◌≤◌, Bool, true, false, cond, ◌&&◌, ltb, leb, ◌⊎◌, List, ◌∷◌, ◌++◌, length, get_or, drop, Some, None, Option, Bor, sym, refl, ap, ◌∙◌, subst, inl, inr, arith}
use Rattle.std.proofs.ByRecursion.{All-get_or}
use Rattle.std.proofs.lemmas.List.{length-drop, get_or-drop}
use Rattle.std.proofs.lemmas.Nat.{pow_below}
use Rattle.std.proofs.lemmas.Bool.{cases_eq, lt-ltb, le-leb, and_from}
use Rattle.std.proofs.lemmas.Bool.Decides.{leb_tells}
use Rattle.std.specs.Option.{MatchOption}
use Rattle.std.specs.Bool.{IsTrue}
use Rattle.gates.specs.Lines.{bit}
use Rattle.gates.specs.Kinds.{KindMeaning}
use Rattle.search.specs.Listing.{Whole}
use Rattle.workspace.specs.Templates.{TemplateMeaning, MeetsRules, size}
use Rattle.workspace.specs.TurnTests.{has_number_lem}
use Rattle.workspace.specs.Conditions.{Condition, no_entry, Sound}
use Rattle.workspace.specs.Occurrences.{Occurrence, places, key_of, template_on}
use Rattle.workspace.specs.Matching.{occurs_in_test}
use Rattle.workspace.specs.Prefixes.{Begun}
use Rattle.workspace.specs.Proposals.{template_of}
use Rattle.workspace.specs.Shelves.{IsNumbered}
use Rattle.workspace.specs.Starts.{IsSet}
use Rattle.workspace.specs.declared.template.Template.{Template}
use Rattle.workspace.proofs.DecidingTurns.{decides_has}
use Rattle.workspace.proofs.Keying.{template_meets, key_long}
use Rattle.workspace.proofs.KeyLevels.{Next, next_of, begun_of, number_at, line_at, distance_at}

module _ (k : KindMeaning) (c : Condition) (prefix : List ℕ) (o : Occurrence) (b : Begun k c prefix o) where
  -- the number of the template
  pub number_is : 2 ≤ length prefix → get_or prefix 1 0 ≡ o.number
  number_is l = number_at k c prefix o b 1 (omega arith)

  pub number_listed : 2 ≤ length prefix → get_or prefix 1 0 < length c.shelf
  number_listed l = omega (arith, number_is l, b.rules.listed)

  -- the template that the prefix numbers is the occurrence's
  pub template_is : 2 ≤ length prefix → (t : TemplateMeaning) → t ≡ (get_or c.shelf (get_or prefix 1 0) no_entry).template → t ≡ template_on c.shelf o
  template_is l t e = e ∙ ap (λ (i : ℕ). (get_or c.shelf i no_entry).template) (number_is l)

  pub share_is : 3 ≤ length prefix → get_or prefix 2 0 ≡ 8 - length (places o)
  share_is l = number_at k c prefix o b 2 (omega arith)

  module _ (sound : Sound k c) where
    pub meets_rules_lem : MeetsRules k (template_on c.shelf o)
    meets_rules_lem = template_meets k c.shelf o sound.templates b.rules.listed

    -- how many places there are
    pub few_is : 3 ≤ length prefix → 8 - get_or prefix 2 0 ≡ length (places o)
    few_is l = omega (arith, share_is l, b.rules.within, meets_rules_lem.size.1)

    -- how long the key is, by its third number
    pub long_is : 3 ≤ length prefix → length (key_of o) + get_or prefix 2 0 ≡ 13 + (template_on c.shelf o).lines
    long_is l = omega (arith, few_is l, key_long k c o b.rules, share_is l, b.rules.within, meets_rules_lem.size.1)

module _ (k : KindMeaning) (c : Condition) (sound : Sound k c) (prefix : List ℕ) where
  -- no key that begins so with a number of no template passes
  pub unlisted : 2 ≤ length prefix → length c.shelf ≤ get_or prefix 1 0 → (v : ℕ) (rest : List ℕ) → occurs_in_test k c (prefix ++ v ∷ rest) ≡ true → ⊥
  unlisted l past v rest e = let n = next_of k c prefix v rest e in let z : ⊥ = omega (arith, number_listed k c prefix n.o n.begun l) in z

  -- a key as long as its third number says is whole
  pub no_longer : 3 ≤ length prefix → (t : TemplateMeaning) → t ≡ (get_or c.shelf (get_or prefix 1 0) no_entry).template → 13 + t.lines ≤ length prefix + get_or prefix 2 0
      → (v : ℕ) (rest : List ℕ) → occurs_in_test k c (prefix ++ v ∷ rest) ≡ true → ⊥
  no_longer l t is long v rest e =
      let n = next_of k c prefix v rest e in
      let lines = ap (λ (x : TemplateMeaning). x.lines) (template_is k c prefix n.o n.begun (omega arith) t is) in
      let z : ⊥ = omega (arith, lines, long_is k c prefix n.o n.begun sound l, n.more) in z

  -- a shorter one does not pass
  pub too_short : 3 ≤ length prefix → (t : TemplateMeaning) → t ≡ (get_or c.shelf (get_or prefix 1 0) no_entry).template → length prefix + get_or prefix 2 0 < 13 + t.lines
      → occurs_in_test k c prefix ≡ false
  too_short l t is short = at (occurs_in_test k c prefix) refl
    where
      at : (r : Bool) → occurs_in_test k c prefix ≡ r → occurs_in_test k c prefix ≡ false
      at false e = e
      at true e =
          let (o, b, long) = begun_of k c prefix e in
          let lines = ap (λ (x : TemplateMeaning). x.lines) (template_is k c prefix o b (omega arith) t is) in
          absurd (let z : ⊥ = omega (arith, lines, long_is k c prefix o b sound l, long) in z)

  -- so the key is whole just if it is as long as its third number says
  pub whole_is : 3 ≤ length prefix → (t : TemplateMeaning) → t ≡ (get_or c.shelf (get_or prefix 1 0) no_entry).template → (least long : ℕ) → least ≡ 13 + t.lines
      → long ≡ length prefix + get_or prefix 2 0 → Whole (occurs_in_test k c) prefix (leb least long)
  whole_is l t is least long m n = by (leb_tells least long)
    where
      by : ((leb least long ≡ true) × (least ≤ long)) ⊎ ((leb least long ≡ false) × (long < least)) → Whole (occurs_in_test k c) prefix (leb least long)
      by (inl h) = subst (Whole (occurs_in_test k c) prefix) (sym h.0) (no_longer l t is (omega (arith, h.1)))
      by (inr h) = subst (Whole (occurs_in_test k c) prefix) (sym h.0) (too_short l t is (omega (arith, h.1)))

  -- a key whose number of a template has none is whole, another by its length
  pub whole_found : 3 ≤ length prefix → (found : Option (Bor Template)) → IsNumbered c.shelf (get_or prefix 1 0) found → (r : Bool) (Q : Bor Template → Type 0)
      → ((t : Bor Template) → Q t → r ≡ leb (13 + (template_of t.now).lines) (length prefix + get_or prefix 2 0)) → MatchOption found (IsTrue r) Q → Whole (occurs_in_test k c) prefix r
  whole_found l None past r Q _ e = subst (Whole (occurs_in_test k c) prefix) (sym e) (unlisted (omega (arith, l)) past)
  whole_found l (Some t) is r Q says q = subst (Whole (occurs_in_test k c) prefix) (sym (says t q)) (whole_is l (template_of t.now) is.1 (13 + (template_of t.now).lines) (length prefix + get_or prefix 2 0) refl refl)

module _ (k : KindMeaning) (c : Condition) (sound : Sound k c) (prefix : List ℕ) (v : ℕ) (n : Next k c prefix v) where
  abbrev o : Occurrence
  o = n.o

  abbrev e : TemplateMeaning
  e = template_on c.shelf o

  at_level : (i : ℕ) → length prefix ≡ i → v ≡ get_or (key_of o) i 0
  at_level i is = sym (ap (λ (x : ℕ). get_or (key_of o) x 0) (sym is) ∙ n.is)

  pub next_number : length prefix ≡ 1 → v < length c.shelf
  next_number is = omega (arith, at_level 1 is, n.begun.rules.listed)

  -- the next number is 8 - k, and k is more than half of the size and no more than it
  pub next_share : length prefix ≡ 2 → (t : TemplateMeaning) → t ≡ e → (v < 8) × ((ltb v 8 && (ltb (size t) (2 * (8 - v)) && leb (8 - v) (size t))) ≡ true)
  next_share is t same =
      let r = n.begun.rules in
      let m = meets_rules_lem k c prefix o n.begun sound in
      let long : size t ≡ size e = ap (λ (x : TemplateMeaning). size x) same in
      let few : length (places o) ≤ 8 = omega (arith, r.within, m.size.1) in
      let back : 8 - v ≡ length (places o) = omega (arith, at_level 2 is) in
      let below : v < 8 = omega (arith, at_level 2 is) in (
        below,
        and_from (ltb v 8) (ltb (size t) (2 * (8 - v)) && leb (8 - v) (size t)) (lt-ltb v 8 below)
            (and_from (ltb (size t) (2 * (8 - v))) (leb (8 - v) (size t)) (lt-ltb (size t) (2 * (8 - v)) (omega (arith, r.strict, long, back))) (le-leb (8 - v) (size t) (omega (arith, r.within, long, back)))),
      )

  pub next_direction : length prefix ≡ 3 → v < 2
  next_direction is = by o.turn.back (at_level 3 is)
    where
      by : (d : Bool) → v ≡ cond d 1 0 → v < 2
      by true q = omega arith
      by false q = omega arith

  pub next_rotation : length prefix ≡ 4 → (t : TemplateMeaning) → t ≡ e → (v < 8) × (v < size t)
  next_rotation is t same =
      let long : size t ≡ size e = ap (λ (x : TemplateMeaning). size x) same in
      let m = meets_rules_lem k c prefix o n.begun sound in
      (omega (arith, at_level 4 is, n.begun.rules.turn.rotates, m.size.1), omega (arith, at_level 4 is, n.begun.rules.turn.rotates, long))

  pub next_flips_lem : length prefix ≡ 5 → (t : TemplateMeaning) → t ≡ e → v < 2 ^ t.lines
  next_flips_lem is t same = subst (λ (x : TemplateMeaning). v < 2 ^ x.lines) (sym same) (let h : v < 2 ^ e.lines = omega (arith, at_level 5 is, n.begun.rules.turn.flips) in h)

  -- a set that has what can come next before the template is posed has the next number
  pub pose_covers : (t : TemplateMeaning) (r : ℕ) → t ≡ e → 2 ≤ length prefix → length prefix < 6
      → (length prefix ≡ 2 → IsSet r (λ x. ltb x 8 && (ltb (size t) (2 * (8 - x)) && leb (8 - x) (size t))))
      → (length prefix ≡ 3 → IsSet r (λ x. ltb x 2))
      → (length prefix ≡ 4 → IsSet r (λ x. ltb x (size t)))
      → (length prefix ≡ 5 → t.lines ≤ 4 → IsSet r (λ x. ltb x (2 ^ t.lines)))
      → bit r v ≡ true
  pose_covers t r same low high shares directions rotations flips = by (cases_eq (length prefix) 2) (cases_eq (length prefix) 3) (cases_eq (length prefix) 4)
    where
      few : t.lines ≤ 4
      few = omega (arith, ap (λ (x : TemplateMeaning). x.lines) same, (meets_rules_lem k c prefix o n.begun sound).lines.1)

      last : length prefix ≡ 5 → bit r v ≡ true
      last is =
          let below = next_flips_lem is t same in
          flips is few v (omega (arith, below, pow_below t.lines 5 (omega (arith, few)))) ∙ lt-ltb v (2 ^ t.lines) below

      by : (length prefix ≡ 2) ⊎ (length prefix ≡ 2 → ⊥) → (length prefix ≡ 3) ⊎ (length prefix ≡ 3 → ⊥) → (length prefix ≡ 4) ⊎ (length prefix ≡ 4 → ⊥) → bit r v ≡ true
      by (inl is) _ _ = let h = next_share is t same in shares is v (omega (arith, h.0)) ∙ h.1
      by (inr _) (inl is) _ = let h = next_direction is in directions is v (omega arith) ∙ lt-ltb v 2 h
      by (inr _) (inr _) (inl is) = let h = next_rotation is t same in rotations is v (omega (arith, h.0)) ∙ lt-ltb v (size t) h.1
      by (inr a) (inr b) (inr d) = last (omega arith)

  -- the next line of the map
  module _ (i : ℕ) (is : length prefix ≡ 6 + i) (inside : i < e.lines) where
    pub line_is : v ≡ get_or o.turn.table i 0
    line_is = at_level (6 + i) is ∙ line_at k c prefix o n.begun i inside

    pub line_below : v < c.store.lines
    line_below =
        let maps = n.begun.rules.turn.maps in
        subst (λ (x : ℕ). x < c.store.lines) (sym line_is) (All-get_or (λ x. x < c.store.lines) o.turn.table i 0 (omega (arith, maps.long)) maps.below)

    pub line_new : has_number_lem (drop 6 prefix) v ≡ false
    line_new = at (has_number_lem (drop 6 prefix) v) refl
      where
        at : (r : Bool) → has_number_lem (drop 6 prefix) v ≡ r → has_number_lem (drop 6 prefix) v ≡ false
        at false q = q
        at true q =
            let (h, lt, there) = (decides_has (drop 6 prefix) v).0 q in
            let before : h < i = omega (arith, length-drop 6 prefix) in
            let same : get_or o.turn.table h 0 ≡ get_or o.turn.table i 0 =
            sym (line_at k c prefix o n.begun h (omega arith)) ∙ sym (number_at k c prefix o n.begun (6 + h) (omega arith)) ∙ sym (get_or-drop 6 prefix h 0) ∙ there ∙ line_is in
            absurd (let z : h ≡ i = n.begun.rules.turn.maps.different h i (omega arith) inside same in omega arith)

  -- the next distance
  module _ (j : ℕ) (is : length prefix ≡ 6 + e.lines + j) where
    pub place_inside : j < length o.later
    place_inside = omega (arith, n.more, key_long k c o n.begun.rules)

    pub distance_is : v ≡ get_or (places o) (suc j) 0 - o.first
    distance_is = at_level (6 + e.lines + j) is ∙ distance_at k c prefix o n.begun j place_inside
