-- Notes fit the occurrences whose keys begin with what they were made for, and what comes next is among what they leave.
use Rattle.std.proofs.Common.{◌≡◌, ℕ, zero, suc, ◌+◌, ◌-◌, ◌<◌, ◌≤◌, Bool, true, false, not, ◌&&◌, ◌||◌, eqb, ltb, ◌⊎◌, List, [], ◌∷◌, ◌++◌, map, length, get_or, take, drop, sym, refl, ap, ◌∙◌, subst, inl, inr, arith}
use Rattle.std.specs.List.{AllZip}
use Rattle.std.proofs.ByRecursion.{All-get_or}
use Rattle.std.proofs.Math.Bool.{or-false}
use Rattle.std.proofs.lemmas.List.Elements.{AllZip-get_or}
use Rattle.std.proofs.lemmas.List.{append_assoc, get_or_push, length_push, length-drop, length-map, get_or_at, get_or-drop, get_or-map, get_or-take, get_or-replicate, drop_all, drop-append-le}
use Rattle.std.proofs.lemmas.Bool.{cases_eq, eq-eqb, ne_eqb, and_from, or_right}
use Rattle.gates.specs.declared.gate.Gate.{Gate}
use Rattle.gates.specs.Lines.{bit}
use Rattle.gates.specs.Kinds.{KindMeaning, KindLaws}
use Rattle.gates.proofs.Masks.{bit_power, bit_not}
use Rattle.fixed_list.specs.declared.fixed_list.FixedList.{FixedList}
use Rattle.fixed_list.specs.Lists.{contents}
use Rattle.workspace.specs.declared.notes.Image.{Image}
use Rattle.workspace.specs.declared.notes.Note.{Note}
use Rattle.workspace.specs.Templates.{TemplateMeaning, size}
use Rattle.workspace.specs.Turns.{Placed, at_position}
use Rattle.workspace.specs.TurnTests.{has_number_lem}
use Rattle.workspace.specs.Conditions.{Condition, Sound, no_entry}
use Rattle.workspace.specs.Occurrences.{Occurrence, places, key_of, template_on}
use Rattle.workspace.specs.Matching.{frame_at, posed}
use Rattle.workspace.specs.Notes.{NoteFits, Narrows, can_stand, Noted, blank_image, gate_of_lem, image_at, members_in, possible, open_reach}
use Rattle.workspace.specs.Prefixes.{Begun}
use Rattle.workspace.specs.Starts.{IsSet, movable}
use Rattle.workspace.proofs.DecidingOccurrences.{direction}
use Rattle.workspace.proofs.Blocking.{next_eligible}
use Rattle.workspace.proofs.DecidingTurns.{decides_has}
use Rattle.workspace.proofs.Frames.{distance, distance_near, distance_rises}
use Rattle.workspace.proofs.Keying.{key_long}
use Rattle.workspace.proofs.KeyLevels.{Next, within_key, number_at, line_at, distance_at}
use Rattle.workspace.proofs.KeyNexts.{template_is, few_is, meets_rules_lem, line_is, place_inside, distance_is}
use Rattle.workspace.proofs.Roles.{pose, pose_long, no_placed, place_covered}
use Rattle.workspace.proofs.Standing.{some_there, possible_of}

-- the order in which two numbers are compared does not matter
same_test : (a b : ℕ) → eqb a b ≡ eqb b a
same_test a b = by (cases_eq a b)
  where
    by : (a ≡ b) ⊎ (a ≡ b → ⊥) → eqb a b ≡ eqb b a
    by (inl e) = eq-eqb a b e ∙ sym (eq-eqb b a (sym e))
    by (inr ne) = ne_eqb a b ne ∙ sym (ne_eqb b a (λ e. ne (sym e)))

-- a list with one number more
has_push : (xs : List ℕ) (v d : ℕ) → has_number_lem (xs ++ v ∷ []) d ≡ (eqb d v || has_number_lem xs d)
has_push [] v d = ap (λ (b : Bool). b || false) (same_test v d)
has_push (x ∷ xs) v d = ap (λ (b : Bool). eqb x d || b) (has_push xs v d) ∙ swapped (eqb x d) (eqb d v) (has_number_lem xs d)
  where
    swapped : (a b e : Bool) → (a || (b || e)) ≡ (b || (a || e))
    swapped true true e = refl
    swapped true false e = refl
    swapped false true e = refl
    swapped false false e = refl

module _ (k : KindMeaning) (c : Condition) (o : Occurrence) (note : Note) (is : members_in note.images ≡ pose k c.shelf o) where
  abbrev placed : Image → Placed
  placed m = at_position m.member.position m.member.gate

  -- the images are those of the posed gates
  images_long : length (contents note.images) ≡ size (template_on c.shelf o)
  images_long = sym (length-map (contents note.images) placed) ∙ ap length is ∙ pose_long k c.shelf o

  gate_is : (j : ℕ) → j < size (template_on c.shelf o) → (get_or (pose k c.shelf o) j no_placed).gate ≡ gate_of_lem note j
  gate_is j l =
      ap (λ (xs : List Placed). (get_or xs j no_placed).gate) (sym is)
      ∙ ap (λ (x : Placed). x.gate) (get_or-map placed (contents note.images) j blank_image no_placed (omega (arith, images_long)))

  module _ (laws : KindLaws k) (sound : Sound k c) (prefix : List ℕ) (b : Begun k c prefix o) where
    -- the image of the j-th gate can stand at the j-th place
    pub stands_there : (i j : ℕ) → i < (template_on c.shelf o).lines → j < length (places o)
        → can_stand k (frame_at c.store.gates o.first) (gate_of_lem note j) i (get_or o.turn.table i 0) (distance o j) ≡ true
    stands_there i j il jl =
        let frame = frame_at c.store.gates o.first in
        ap (λ (t : Gate). can_stand k frame t i (get_or o.turn.table i 0) (distance o j)) (sym (gate_is j (omega (arith, b.rules.within))))
        ∙ place_covered laws c.store.lines c.store.gates c.shelf o (meets_rules_lem k c prefix o b sound) b.rules j i jl il

module _ (k : KindMeaning) (c : Condition) (sound : Sound k c) (key prefix : List ℕ) (v : ℕ) (is : key ≡ prefix ++ v ∷ []) (o : Occurrence) (b : Begun k c key o) where
  abbrev e : TemplateMeaning
  e = template_on c.shelf o

  begun_before : Begun k c prefix o
  begun_before = record { rules = b.rules; rest = v ∷ b.rest; begins = b.begins ∙ ap (λ (x : List ℕ). x ++ b.rest) is ∙ append_assoc prefix (v ∷ []) b.rest }

  one_more : length key ≡ length prefix + 1
  one_more = ap length is ∙ length_push prefix v

  last_in_key : v ≡ get_or (key_of o) (length prefix) 0
  last_in_key = sym (sym (number_at k c key o b (length prefix) (omega (arith, one_more))) ∙ ap (λ (x : List ℕ). get_or x (length prefix) 0) is ∙ get_or_at prefix v [] 0 (length prefix) refl)

  -- what stands last in the key is the number that came last
  last_read : (i last : ℕ) → length key ≡ 7 + i → last ≡ get_or key (6 + i) 0 → last ≡ v
  last_read i last long at = at ∙ ap (λ (x : List ℕ). get_or x (6 + i) 0) is ∙ get_or_push prefix v 0 (6 + i) (omega (arith, one_more))

  -- the template that the key numbers has the lines of the occurrence's
  lines_same : (t : TemplateMeaning) → 2 ≤ length key → t ≡ (get_or c.shelf (get_or key 1 0) no_entry).template → t.lines ≡ e.lines
  lines_same t two read = ap (λ (x : TemplateMeaning). x.lines) (template_is k c key o b two t read)

  -- the line that was mapped last
  line_last : (i : ℕ) → length key ≡ 7 + i → i < e.lines → v ≡ get_or o.turn.table i 0
  line_last i long il = last_in_key ∙ ap (λ (x : ℕ). get_or (key_of o) x 0) (let z : length prefix ≡ 6 + i = omega (arith, one_more) in z) ∙ line_at k c key o b i il

  line_small : (i : ℕ) → length key ≡ 7 + i → i < e.lines → v < c.store.lines
  line_small i long il =
      let maps = b.rules.turn.maps in
      subst (λ (x : ℕ). x < c.store.lines) (sym (line_last i long il)) (All-get_or (λ x. x < c.store.lines) o.turn.table i 0 (omega (arith, maps.long)) maps.below)

  -- a template that was just posed
  pub posed_fits : (note : Note) (back : Bool) (rotation flips : ℕ) (t : TemplateMeaning) → length key ≡ 6 → t ≡ e → back ≡ eqb (get_or key 3 0) 1 → rotation ≡ get_or key 4 0 → flips ≡ get_or key 5 0
      → members_in note.images ≡ posed k t back rotation flips → map (λ (m : Image). m.reached) (contents note.images) ≡ take (length (contents note.images)) open_reach
      → note.chosen ≡ 1 → NoteFits k e key note o
  posed_fits note back rotation flips t six same b-is r-is f-is poses reaches chooses =
      let b_at : back ≡ o.turn.back = b-is ∙ ap (λ (x : ℕ). eqb x 1) (number_at k c key o b 3 (omega arith)) ∙ direction o.turn.back in
      let r-at : rotation ≡ o.turn.rotation = r-is ∙ number_at k c key o b 4 (omega arith) in
      let f-at : flips ≡ o.turn.flips = f-is ∙ number_at k c key o b 5 (omega arith) in
      let is : members_in note.images ≡ pose k c.shelf o = poses ∙ (λ i. posed k (same i) (b_at i) (r-at i) (f-at i)) in
      record {
        posed_so = is;
        reached_so = λ j l.
            let images = contents note.images in
            let inside : j < length images = omega (arith, l, b.rules.within, images_long k c o note is) in
            ap (λ (x : ℕ). bit x (distance o j)) (sym (get_or-map (λ (m : Image). m.reached) images j blank_image 0 inside) ∙ ap (λ (xs : List ℕ). get_or xs j 0) reaches ∙ get_or-take (length images) open_reach j 0 inside)
            ∙ open_at j l;
        chosen_so = λ d l.
            ap (λ (x : ℕ). bit x d) chooses ∙ bit_power 0 d ∙ same_test d 0 ∙ sym (or-false (eqb 0 d))
            ∙ ap (λ (xs : List ℕ). has_number_lem (0 ∷ xs) d) (sym (drop_all (6 + e.lines) key (omega arith)));
      }
    where
      later : (j : ℕ) → suc j < length (places o) → bit 18446744073709551614 (distance o (suc j)) ≡ true
      later j l =
          let near = distance_near k c.store.lines c.store.gates c.shelf o b.rules (suc j) l in
          let behind = distance_rises k c.store.lines c.store.gates c.shelf o b.rules 0 (suc j) (omega arith) l in
          bit_not 64 1 (distance o (suc j)) (omega arith) (omega arith) ∙ ap not (bit_power 0 (distance o (suc j)) ∙ ne_eqb (distance o (suc j)) 0 (λ q. omega arith))

      open_at : (j : ℕ) → j < length (places o) → bit (get_or open_reach j 0) (distance o j) ≡ true
      open_at zero l = ap (bit 1) (let z : distance o 0 ≡ 0 = omega arith in z) ∙ bit_power 0 0
      open_at (suc j) l =
          ap (λ (x : ℕ). bit x (distance o (suc j))) (get_or-replicate 7 j 18446744073709551614 0 (omega (arith, b.rules.within, (meets_rules_lem k c key o b sound).size.1))) ∙ later j l

  module _ (laws : KindLaws k) (above note : Note) (fits : NoteFits k e prefix above o) where
    -- one more line is mapped
    narrowed_fits : (i : ℕ) → length key ≡ 7 + i → i < e.lines → members_in note.images ≡ members_in above.images → note.chosen ≡ above.chosen
        → AllZip (Narrows k (frame_at c.store.gates o.first) i v) (contents above.images) (contents note.images) → NoteFits k e key note o
    narrowed_fits i long il poses chooses reaches =
        record {
          posed_so = poses ∙ fits.posed_so;
          reached_so = λ j l.
              let near = distance_near k c.store.lines c.store.gates c.shelf o b.rules j l in
              let inside : j < length (contents above.images) = omega (arith, l, b.rules.within, images_long k c o above fits.posed_so) in
              (AllZip-get_or _ (contents above.images) (contents note.images) j blank_image blank_image reaches inside).reached (distance o j) (omega arith)
              ∙ and_from _ _ (fits.reached_so j l)
              (ap (λ (x : ℕ). can_stand k (frame_at c.store.gates o.first) (gate_of_lem above j) i x (distance o j)) (line_last i long il)
              ∙ stands_there k c o above fits.posed_so laws sound key b i j il l);
          chosen_so = λ d l.
              ap (λ (x : ℕ). bit x d) chooses ∙ fits.chosen_so d l
              ∙ ap (λ (xs : List ℕ). has_number_lem (0 ∷ xs) d) (drop_all (6 + e.lines) prefix (omega (arith, one_more)) ∙ sym (drop_all (6 + e.lines) key (omega arith)));
        }

    -- one more distance is chosen
    place_fits : 7 + e.lines ≤ length key → note.images ≡ above.images → IsSet note.chosen (λ d. eqb d v || bit above.chosen d) → NoteFits k e key note o
    place_fits long keeps chooses = record {
      posed_so = ap members_in keeps ∙ fits.posed_so;
      reached_so = λ j l. ap (λ (xs : FixedList Image 8). bit (get_or (contents xs) j blank_image).reached (distance o j)) keeps ∙ fits.reached_so j l;
      chosen_so = λ d l.
          chooses d l ∙ ap (λ (x : Bool). eqb d v || x) (fits.chosen_so d l)
          ∙ sym (has_push (0 ∷ drop (6 + e.lines) prefix) v d)
          ∙ ap (λ (xs : List ℕ). has_number_lem (0 ∷ xs) d) (sym (ap (drop (6 + e.lines)) is ∙ drop-append-le (6 + e.lines) prefix (v ∷ []) (omega (arith, one_more))));
    }

  -- what was read of the key: the lines of the template, and the number that came last
  module _ (t : TemplateMeaning) (read : t ≡ (get_or c.shelf (get_or key 1 0) no_entry).template) (i last : ℕ) (long : length key ≡ 7 + i) (at : last ≡ get_or key (6 + i) 0) where
    lines : t.lines ≡ e.lines
    lines = lines_same t (omega (arith, long)) read

    is_last : last ≡ v
    is_last = last_read i last long at

    -- where it is a line, it is one of the store's
    pub line_read : i < t.lines → last < c.store.lines
    line_read il = omega (arith, is_last, line_small i long (omega (arith, il, lines)))

    module _ (laws : KindLaws k) (above note : Note) (before : Noted k c prefix above) where
      fits : NoteFits k e prefix above o
      fits = before (omega (arith, one_more, long)) o begun_before

      -- the note of one more line fits
      pub line_noted : i < t.lines → (x : ℕ) → x ≡ last → (frame : List Gate) → frame ≡ frame_at c.store.gates (get_or key 0 0) → members_in note.images ≡ members_in above.images → note.chosen ≡ above.chosen
          → AllZip (Narrows k frame i x) (contents above.images) (contents note.images) → NoteFits k e key note o
      line_noted il x x-is frame f-is poses chooses reaches =
          narrowed_fits laws above note fits i long (omega (arith, il, lines)) poses chooses
          (subst (λ (gs : List Gate). AllZip (Narrows k gs i v) (contents above.images) (contents note.images)) (f-is ∙ ap (frame_at c.store.gates) (number_at k c key o b 0 (omega (arith, long))))
          (subst (λ (y : ℕ). AllZip (Narrows k frame i y) (contents above.images) (contents note.images)) (x-is ∙ is_last) reaches))

      -- the note of one more distance fits
      pub place_noted : t.lines ≤ i → note.images ≡ above.images → IsSet note.chosen (λ d. eqb d last || bit above.chosen d) → NoteFits k e key note o
      place_noted many keeps chooses =
          place_fits laws above note fits (omega (arith, many, lines, long)) keeps (subst (λ (x : ℕ). IsSet note.chosen (λ d. eqb d x || bit above.chosen d)) is_last chooses)

module _ (k : KindMeaning) (c : Condition) (prefix : List ℕ) (o : Occurrence) (b : Begun k c prefix o) where
  -- the distance that was chosen last: that of the first place, or the last number
  pub last_is : (j : ℕ) → length prefix ≡ 6 + (template_on c.shelf o).lines + j → get_or (0 ∷ drop (6 + (template_on c.shelf o).lines) prefix) j 0 ≡ distance o j
  last_is zero long = let z : 0 ≡ distance o 0 = omega arith in z
  last_is (suc j) long =
      let lines = (template_on c.shelf o).lines in
      let inside : j < length o.later = omega (arith, within_key k c prefix o b, key_long k c o b.rules) in
      get_or-drop (6 + lines) prefix j 0 ∙ number_at k c prefix o b (6 + lines + j) (omega arith) ∙ distance_at k c prefix o b j inside

module _ (k : KindMeaning) (c : Condition) (laws : KindLaws k) (sound : Sound k c) (prefix : List ℕ) (v : ℕ) (n : Next k c prefix v) (note : Note)
    (fits : NoteFits k (template_on c.shelf n.o) prefix note n.o) where
  -- the next line leaves every gate somewhere to stand
  pub line_possible : (few i : ℕ) → few ≡ 8 - get_or prefix 2 0 → length prefix ≡ 6 + i → i < (template_on c.shelf n.o).lines
      → possible k (frame_at c.store.gates n.o.first) note few i v ≡ true
  line_possible few i f-is long il =
      let o = n.o in
      let frame = frame_at c.store.gates o.first in
      let places-few : few ≡ length (places o) = f-is ∙ few_is k c prefix o n.begun sound (omega arith) in
      possible_of k frame note i v few (λ j l.
      let jl : j < length (places o) = omega arith in
      let near = distance_near k c.store.lines c.store.gates c.shelf o n.begun.rules j jl in
      some_there (image_at note j).reached (can_stand k frame (gate_of_lem note j) i v) (distance o j) (omega arith) (fits.reached_so j jl)
      (ap (λ (x : ℕ). can_stand k frame (gate_of_lem note j) i x (distance o j)) (line_is k c sound prefix v n i long il)
      ∙ stands_there k c o note fits.posed_so laws sound prefix n.begun i j il jl))

  -- the next distance is one at which the gate can stand and to which it can be moved
  pub place_next : (j last : ℕ) → length prefix ≡ 6 + (template_on c.shelf n.o).lines + j → last ≡ distance n.o j
      → (v < 64) × ((bit (image_at note (suc j)).reached v
      && (ltb v (length (frame_at c.store.gates n.o.first)) && (ltb last v && movable k (frame_at c.store.gates n.o.first) note.chosen v))) ≡ true)
  place_next j last long l-is =
      let frame = frame_at c.store.gates o.first in
      let inside : suc j < length (places o) = omega (arith, place_inside k c sound prefix v n j long) in
      let near = distance_near k c.store.lines c.store.gates c.shelf o n.begun.rules (suc j) inside in
      let v-is : distance o (suc j) ≡ v = sym (distance_is k c sound prefix v n j long) in (
        omega (arith, near, v-is),
        ap (λ (d : ℕ). bit (image_at note (suc j)).reached d && (ltb d (length frame) && (ltb last d && movable k frame note.chosen d))) (sym v-is)
            ∙ ap (λ (x : ℕ). bit (image_at note (suc j)).reached (distance o (suc j)) && (ltb (distance o (suc j)) (length frame) && (ltb x (distance o (suc j)) && movable k frame note.chosen (distance o (suc j))))) l-is
            ∙ and_from _ _ (fits.reached_so (suc j) inside) (next_eligible k c.store.lines c.store.gates c.shelf o n.begun.rules j note.chosen inside so_far),
      )
    where
      o : Occurrence
      o = n.o

      lines : ℕ
      lines = (template_on c.shelf o).lines

      so_far : (i : ℕ) → i ≤ j → bit note.chosen (distance o i) ≡ true
      so_far zero l = ap (bit note.chosen) (let z : distance o 0 ≡ 0 = omega arith in z) ∙ fits.chosen_so 0 (omega arith)
      so_far (suc i) l =
          let inside : suc i < length (places o) = omega (arith, place_inside k c sound prefix v n j long) in
          let near = distance_near k c.store.lines c.store.gates c.shelf o n.begun.rules (suc i) inside in
          let there : get_or (drop (6 + lines) prefix) i 0 ≡ distance o (suc i) =
          get_or-drop (6 + lines) prefix i 0 ∙ number_at k c prefix o n.begun (6 + lines + i) (omega arith) ∙ distance_at k c prefix o n.begun i (omega arith) in
          fits.chosen_so (distance o (suc i)) (omega arith)
          ∙ or_right (eqb 0 (distance o (suc i))) _ ((decides_has (drop (6 + lines) prefix) (distance o (suc i))).1 (i, omega (arith, length-drop (6 + lines) prefix), there))
