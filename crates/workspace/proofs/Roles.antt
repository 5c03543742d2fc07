-- The roles of lines: what a line of a posed template is to a gate, its new line is to the gate at the place.
use Rattle.std.proofs.Common.{◌≡◌, ℕ, ◌<◌, Bool, true, false, cond, ◌&&◌, ◌||◌, ltb, List, [], ◌∷◌, length, get_or, sym, refl, ap, ◌∙◌, subst, arith}
use Rattle.std.specs.List.{AllByRecursion}
use mathlib.Core.Bool.{beq}
use Rattle.std.proofs.ByRecursion.{All-get_or}
use Rattle.std.proofs.lemmas.List.{get_or-map, get_or-take, length-map}
use Rattle.std.proofs.lemmas.Bool.{ne_eqb, and_from, lt-ltb}
use Rattle.gates.specs.declared.gate.Gate.{Gate}
use Rattle.gates.specs.declared.gate.Sign.{Sign}
use Rattle.gates.specs.declared.gate.Sign.TheVariants.{Positive, Negative}
use Rattle.gates.specs.Lines.{Table, width, bit}
use Rattle.gates.specs.Controls.{gate, with_member, more_positive, more_negative}
use Rattle.gates.specs.Kinds.{KindMeaning, KindLaws, Formed, AddedLines}
use Rattle.gates.specs.ControlSets.{member_at, set_at, table_lt}
use Rattle.workspace.specs.Templates.{TemplateMeaning, MeetsRules, size}
use Rattle.workspace.specs.Turns.{Placed, Turn, at_position, on_gate, placed, turned, member, Added, added, Fits, turned_template, turned_gates}
use Rattle.workspace.specs.Conditions.{EntryMeaning}
use Rattle.workspace.specs.Matching.{frame_at, posed}
use Rattle.workspace.specs.Occurrences.{Occurrence, places, template_on, OccursAs}
use Rattle.workspace.specs.Starts.{at_distance, same_role}
use Rattle.workspace.proofs.Placing.{posed_formed, length_turned}
use Rattle.workspace.proofs.Extending.{Room, controls, still_idle}
use Rattle.workspace.proofs.Replacing.{room}
use Rattle.workspace.proofs.Occurring.{adds_fit}
use Rattle.workspace.proofs.Frames.{distance, distance_inside, place_gate}

-- line x of w is what line i of t is
pub record Roles (k : KindMeaning) (t : Gate) (i : ℕ) (w : Gate) (x : ℕ) : Type 0 where
  pub positive : bit w.positive x ≡ bit t.positive i
  pub negative : bit w.negative x ≡ bit t.negative i
  pub targets : bit (k.targets w) x ≡ bit (k.targets t) i

joined : (k : KindMeaning) (s t u : Gate) (i j l : ℕ) → Roles k s i t j → Roles k t j u l → Roles k s i u l
joined k s t u i j l a b = record { positive = b.positive ∙ a.positive; negative = b.negative ∙ a.negative; targets = b.targets ∙ a.targets }

-- a control on another line leaves a line as it was
other_line : (l m x : ℕ) → x < width → (x ≡ l → ⊥) → bit (with_member l m) x ≡ bit m x
other_line l m x lt ne = member_at l m x lt ∙ ap (λ (b : Bool). b || bit m x) (ne_eqb x l ne)

one_added : (k : KindMeaning) (l : ℕ) (sign : Sign) (g h : Gate) (x : ℕ) → x < width → (x ≡ l → ⊥) → AddedLines k l sign g h → Roles k g x h x
one_added k l sign g h x lt ne a = record {
  positive = ap (λ (m : ℕ). bit m x) a.positive ∙ plus sign;
  negative = ap (λ (m : ℕ). bit m x) a.negative ∙ minus sign;
  targets = ap (λ (m : ℕ). bit m x) a.targets;
}
  where
    plus : (sign : Sign) → bit (more_positive l sign g.positive) x ≡ bit g.positive x
    plus Positive = other_line l g.positive x lt ne
    plus Negative = refl

    minus : (sign : Sign) → bit (more_negative l sign g.negative) x ≡ bit g.negative x
    minus Positive = refl
    minus Negative = other_line l g.negative x lt ne

module _ {k : KindMeaning} (laws : KindLaws k) (n : ℕ) (groups : List ℕ) (x : ℕ) (small : x < width) where
  -- controls on other lines leave a line as it was
  adds_keep : (adds : List Added) (p : ℕ) (g : Gate) → Formed k n g → Room k n g adds → AllByRecursion (λ a. x ≡ a.line → ⊥) adds → Roles k g x (added k groups adds p g) x
  adds_keep [] p g f room out = record { positive = refl; negative = refl; targets = refl }
  adds_keep (a ∷ adds) p g f room out =
      let h = added k groups adds p g in
      let c = controls laws n groups adds p g f room.3 in
      let rest = adds_keep adds p g f room.3 out.1 in
      let idle = still_idle laws n groups a.line adds p g h room.1 room.2 c in
      let more = joined k g h (k.controlled a.line a.sign h) x x x rest (one_added k a.line a.sign h _ x small out.0 (laws.controlled_lines n a.line a.sign h c.formed room.0 idle)) in
      elim (member groups a.group p) as (λ b. Roles k g x (cond b (k.controlled a.line a.sign h) h) x) [ true ↦ more | false ↦ rest ]

module _ {k : KindMeaning} (laws : KindLaws k) (n : ℕ) (e : TemplateMeaning) (t : Turn) (adds : List Added) (maps : Table e.lines n t.table) (fits : Fits n t.table adds) where
  -- the new line of a line is on none of the added controls
  apart : (more : List Added) → Fits n t.table more → (i : ℕ) → i < length t.table → AllByRecursion (λ a. get_or t.table i 0 ≡ a.line → ⊥) more
  apart [] fit i l = tt
  apart (a ∷ more) fit i l = (All-get_or (λ y. y ≡ a.line → ⊥) t.table i 0 l fit.1, apart more fit.3 i l)

  -- a gate on its new lines, with the controls that are added
  turned_roles : (p : ℕ) (g : Gate) → Formed k e.lines g → (i : ℕ) → i < e.lines → Roles k g i (added k e.groups adds p (k.renamed t.table g)) (get_or t.table i 0)
  turned_roles p g f i l =
      let table = t.table in
      let x = get_or table i 0 in
      let h = k.renamed table g in
      let in_table : i < length table = omega (arith, maps.long) in
      let small : x < width = omega (arith, table_lt e.lines n table maps i in_table, maps.few) in
      let on-new = laws.renamed_lines e.lines n table g maps f in
      let at_new : Roles k g i h x = record {
        positive = ap (λ (m : ℕ). bit m x) on-new.positive ∙ set_at e.lines n table maps g.positive i in_table;
        negative = ap (λ (m : ℕ). bit m x) on-new.negative ∙ set_at e.lines n table maps g.negative i in_table;
        targets = ap (λ (m : ℕ). bit m x) on-new.targets ∙ set_at e.lines n table maps (k.targets g) i in_table;
      } in
      joined k g h _ i x x at_new
      (adds_keep laws n e.groups x small adds p h (laws.renamed_formed e.lines n table g maps f) (room laws n e t adds fits maps g f) (apart adds fits i in_table))

-- some gate at some position
abbrev pub no_placed : Placed
no_placed = at_position 0 (gate 0 0 0 0)

-- the template of the occurrence, posed on its own lines
abbrev pub pose : KindMeaning → List EntryMeaning → Occurrence → List Placed
pose k shelf o = posed k (template_on shelf o) o.turn.back o.turn.rotation o.turn.flips

pub pose_long : (k : KindMeaning) (shelf : List EntryMeaning) (o : Occurrence) → length (pose k shelf o) ≡ size (template_on shelf o)
pose_long k shelf o = sym (length-map (pose k shelf o) (on_gate (k.renamed o.turn.table))) ∙ length_turned k (template_on shelf o) o.turn

module _ {k : KindMeaning} (laws : KindLaws k) (n : ℕ) (gates : List Gate) (shelf : List EntryMeaning) (o : Occurrence) (meets : MeetsRules k (template_on shelf o)) (is : OccursAs k n gates shelf o) where
  -- the gate at a place is the posed one on its new lines, with the controls that are added
  placed_gate : (j : ℕ) → j < length (places o)
      → get_or gates (get_or (places o) j 0) (gate 0 0 0 0) ≡ added k (template_on shelf o).groups is.adds (get_or (pose k shelf o) j no_placed).position (k.renamed o.turn.table (get_or (pose k shelf o) j no_placed).gate)
  placed_gate j l =
      let e = template_on shelf o in
      let within : j < length (pose k shelf o) = omega (arith, is.within, pose_long k shelf o) in
      let turns : List Placed = turned k o.turn (placed e.gates) in
      let long : j < length turns = omega (arith, length_turned k e o.turn, is.within) in
      let whole : j < length (turned_template k e o.turn is.adds) = omega (arith, length-map turns (λ x. on_gate (added k e.groups is.adds x.position) x)) in
      sym (get_or-map (λ q. get_or gates q (gate 0 0 0 0)) (places o) j 0 (gate 0 0 0 0) l)
      ∙ ap (λ (xs : List Gate). get_or xs j (gate 0 0 0 0)) is.equal
      ∙ get_or-take (length (places o)) (turned_gates k e o.turn is.adds) j (gate 0 0 0 0) l
      ∙ get_or-map (λ x. x.gate) (turned_template k e o.turn is.adds) j no_placed (gate 0 0 0 0) whole
      ∙ ap (λ (x : Placed). x.gate) (get_or-map (λ x. on_gate (added k e.groups is.adds x.position) x) turns j no_placed no_placed long)
      ∙ ap (λ (x : Placed). added k e.groups is.adds x.position x.gate) (get_or-map (on_gate (k.renamed o.turn.table)) (pose k shelf o) j no_placed no_placed within)

  -- the new line of a line is to the gate at the j-th place what the line is to the j-th posed gate
  pub place_roles : (j i : ℕ) → j < length (places o) → i < (template_on shelf o).lines
      → Roles k (get_or (pose k shelf o) j no_placed).gate i (get_or gates (get_or (places o) j 0) (gate 0 0 0 0)) (get_or o.turn.table i 0)
  place_roles j i l il =
      let e = template_on shelf o in
      let g = (get_or (pose k shelf o) j no_placed).gate in
      let within : j < length (pose k shelf o) = omega (arith, is.within, pose_long k shelf o) in
      let formed = All-get_or (λ x. Formed k e.lines x.gate) (pose k shelf o) j no_placed within (posed_formed laws n e o.turn meets.gates is.turn) in
      subst (λ (w : Gate). Roles k g i w (get_or o.turn.table i 0)) (sym (placed_gate j l))
      (turned_roles laws n e o.turn is.adds is.turn.maps (adds_fit k n gates shelf o is) (get_or (pose k shelf o) j no_placed).position g formed i il)

  -- so the gates of the frame pass the test of roles
  pub frame_roles : (j i : ℕ) → j < length (places o) → i < (template_on shelf o).lines
      → same_role k (get_or (pose k shelf o) j no_placed).gate i (at_distance (frame_at gates o.first) (distance o j)) (get_or o.turn.table i 0) ≡ true
  frame_roles j i l il =
      let r = place_roles j i l il in
      ap (λ (w : Gate). same_role k (get_or (pose k shelf o) j no_placed).gate i w (get_or o.turn.table i 0)) (place_gate k n gates shelf o is j l)
      ∙ and_from _ _ (same _ _ r.positive) (and_from _ _ (same _ _ r.negative) (same _ _ r.targets))
    where
      same : (a b : Bool) → a ≡ b → beq a b ≡ true
      same a b e = ap (λ (x : Bool). beq x b) e ∙ itself b
        where
          itself : (b : Bool) → beq b b ≡ true
          itself true = refl
          itself false = refl

  -- the distance of the j-th place is among those at which the line has these roles
  pub place_covered : (j i : ℕ) → j < length (places o) → i < (template_on shelf o).lines
      → (ltb (distance o j) (length (frame_at gates o.first)) && same_role k (get_or (pose k shelf o) j no_placed).gate i (at_distance (frame_at gates o.first) (distance o j)) (get_or o.turn.table i 0)) ≡ true
  place_covered j i l il = and_from _ _ (lt-ltb (distance o j) _ (distance_inside k n gates shelf o is j l)) (frame_roles j i l il)
