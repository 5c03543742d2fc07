-- What the numbers of a key say of the occurrences whose keys begin with them.
use Rattle.std.proofs.Common.{◌≡◌, ℕ, suc, ◌+◌, ◌-◌, ◌<◌, ◌≤◌, true, cond, List, [], ◌∷◌, ◌++◌, map, length, get_or, sym, refl, ap, ◌∙◌, arith}
use Rattle.std.proofs.lemmas.List.{append-nil, length-append, get_or_append_left, get_or-append-add, get_or_at, get_or-map}
use Rattle.gates.specs.Kinds.{KindMeaning}
use Rattle.workspace.specs.Conditions.{Condition}
use Rattle.workspace.specs.Occurrences.{Occurrence, places, key_of, template_on}
use Rattle.workspace.specs.Matching.{occurs_in_test}
use Rattle.workspace.specs.Prefixes.{Begun}
use Rattle.workspace.proofs.DecidingOccurrences.{decides_occurrences}

module _ (k : KindMeaning) (c : Condition) where
  -- an occurrence whose key goes on with v behind the prefix
  pub record Next (prefix : List ℕ) (v : ℕ) : Type 0 where
    pub o : Occurrence
    pub begun : Begun k c prefix o
    pub is : get_or (key_of o) (length prefix) 0 ≡ v
    pub more : length prefix < length (key_of o)

  -- what passes the test goes on so
  pub next_of : (prefix : List ℕ) (v : ℕ) (rest : List ℕ) → occurs_in_test k c (prefix ++ v ∷ rest) ≡ true → Next prefix v
  next_of prefix v rest e =
      let s = (decides_occurrences k c.store.lines c.store.gates c.shelf (prefix ++ v ∷ rest)).0 e in
      let named = sym s.named in
      record {
        o = s.occurrence;
        begun = record { rules = s.rules; rest = v ∷ rest; begins = named };
        is = ap (λ (key : List ℕ). get_or key (length prefix) 0) named ∙ get_or_at prefix v rest 0 (length prefix) refl;
        more = omega (arith, ap length named, length-append prefix (v ∷ rest));
      }

  -- what passes the test is begun by itself
  pub begun_of : (prefix : List ℕ) → occurs_in_test k c prefix ≡ true → (o : Occurrence) × Begun k c prefix o × (length (key_of o) ≡ length prefix)
  begun_of prefix e =
      let s = (decides_occurrences k c.store.lines c.store.gates c.shelf prefix).0 e in
      let named = sym s.named in
      (s.occurrence, record { rules = s.rules; rest = []; begins = named ∙ sym (append-nil prefix) }, ap length named)

  module _ (prefix : List ℕ) (o : Occurrence) (b : Begun k c prefix o) where
    pub within_key : length prefix ≤ length (key_of o)
    within_key = omega (arith, ap length b.begins, length-append prefix b.rest)

    -- the prefix has the first numbers of the key
    pub number_at : (i : ℕ) → i < length prefix → get_or prefix i 0 ≡ get_or (key_of o) i 0
    number_at i lt = sym (ap (λ (key : List ℕ). get_or key i 0) b.begins ∙ get_or_append_left prefix b.rest 0 i lt)

    abbrev distances : List ℕ
    distances = map (λ q. q - o.first) o.later

    abbrev front : List ℕ
    front = o.first ∷ o.number ∷ (8 - length (places o)) ∷ cond o.turn.back 1 0 ∷ o.turn.rotation ∷ o.turn.flips ∷ []

    abbrev lines : ℕ
    lines = (template_on c.shelf o).lines

    -- the next numbers are the lines of the map
    pub line_at : (i : ℕ) → i < lines → get_or (key_of o) (6 + i) 0 ≡ get_or o.turn.table i 0
    line_at i lt = get_or-append-add front (o.turn.table ++ distances) i 0 ∙ get_or_append_left o.turn.table distances 0 i (omega (arith, b.rules.turn.maps.long))

    -- then come the distances of the later places
    pub distance_at : (j : ℕ) → j < length o.later → get_or (key_of o) (6 + lines + j) 0 ≡ get_or (places o) (suc j) 0 - o.first
    distance_at j lt =
        let long = b.rules.turn.maps.long in
        let same : 6 + lines + j ≡ 6 + (length o.turn.table + j) = omega arith in
        ap (λ (i : ℕ). get_or (key_of o) i 0) same
        ∙ get_or-append-add front (o.turn.table ++ distances) (length o.turn.table + j) 0
        ∙ get_or-append-add o.turn.table distances j 0
        ∙ get_or-map (λ q. q - o.first) o.later j 0 0 lt
