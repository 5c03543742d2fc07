-- What comes next in the keys of occurrences is in the sets that are read of a key, its note and its frame.
use Rattle.std.proofs.Common.{◌≡◌, ℕ, suc, ◌+◌, ◌-◌, ◌<◌, ◌≤◌, true, not, ◌&&◌, ltb, List, ◌∷◌, length, get_or, drop, sym, ap, ◌∙◌, subst, ap₂, arith}
use Rattle.std.proofs.lemmas.Bool.{lt-ltb, and_from, not_from_false}
use Rattle.gates.specs.declared.gate.Gate.{Gate}
use Rattle.gates.specs.Lines.{bit}
use Rattle.gates.specs.Kinds.{KindMeaning, KindLaws}
use Rattle.workspace.specs.declared.notes.Note.{Note}
use Rattle.workspace.specs.Templates.{TemplateMeaning}
use Rattle.workspace.specs.TurnTests.{has_number_lem}
use Rattle.workspace.specs.Conditions.{Condition, Sound, no_entry}
use Rattle.workspace.specs.Occurrences.{template_on}
use Rattle.workspace.specs.Matching.{frame_at}
use Rattle.workspace.specs.Notes.{NoteFits, Noted, image_at, possible}
use Rattle.workspace.specs.Starts.{IsSet, movable}
use Rattle.workspace.proofs.KeyLevels.{Next, number_at}
use Rattle.workspace.proofs.KeyNexts.{template_is, line_below, line_new}
use Rattle.workspace.proofs.KeyNotes.{last_is, line_possible, place_next}

module _ (k : KindMeaning) (c : Condition) (laws : KindLaws k) (sound : Sound k c) (prefix : List ℕ) (six : 6 ≤ length prefix) (note : Note) (noted : Noted k c prefix note)
    (t : TemplateMeaning) (read : t ≡ (get_or c.shelf (get_or prefix 1 0) no_entry).template) (frame : List Gate) (framed : frame ≡ frame_at c.store.gates (get_or prefix 0 0))
    (v : ℕ) (n : Next k c prefix v) (set : ℕ) where
  fits : NoteFits k (template_on c.shelf n.o) prefix note n.o
  fits = noted six n.o n.begun

  lines : t.lines ≡ (template_on c.shelf n.o).lines
  lines = ap (λ (x : TemplateMeaning). x.lines) (template_is k c prefix n.o n.begun (omega (arith, six)) t read)

  frame_is : frame ≡ frame_at c.store.gates n.o.first
  frame_is = framed ∙ ap (frame_at c.store.gates) (number_at k c prefix n.o n.begun 0 (omega (arith, six)))

  -- the next line of the map
  pub line_in_set : (i few most : ℕ) → length prefix ≡ 6 + i → i < t.lines → few ≡ 8 - get_or prefix 2 0 → most ≡ c.store.lines → most ≤ 32
      → IsSet set (λ x. ltb x most && (not (has_number_lem (drop 6 prefix) x) && possible k frame note few i x)) → bit set v ≡ true
  line_in_set i few most long il few-is most-is small is =
      let inside : i < (template_on c.shelf n.o).lines = omega (arith, il, lines) in
      let below : v < most = omega (arith, line_below k c sound prefix v n i long inside, most-is) in
      is v (omega (arith, below, small))
      ∙ and_from (ltb v most) _ (lt-ltb v most below)
      (and_from (not (has_number_lem (drop 6 prefix) v)) _ (not_from_false (has_number_lem (drop 6 prefix) v) (line_new k c sound prefix v n i long inside))
      (subst (λ (gs : List Gate). possible k gs note few i v ≡ true) (sym frame_is) (line_possible k c laws sound prefix v n note fits few i few-is long inside)))

  -- the next distance
  pub distance_in_set : (l j last place : ℕ) → l ≡ t.lines → length prefix ≡ 6 + l + j → last ≡ get_or (0 ∷ drop (6 + l) prefix) j 0 → place ≡ suc j
      → IsSet set (λ d. bit (image_at note place).reached d && (ltb d (length frame) && (ltb last d && movable k frame note.chosen d))) → bit set v ≡ true
  distance_in_set l j last place l-is long last-at place-is is =
      let more : length prefix ≡ 6 + (template_on c.shelf n.o).lines + j = omega (arith, long, l-is, lines) in
      let h = place_next k c laws sound prefix v n note fits j last more
      (last-at ∙ ap (λ (x : ℕ). get_or (0 ∷ drop (6 + x) prefix) j 0) (l-is ∙ lines) ∙ last_is k c prefix n.o n.begun j more) in
      is v h.0
      ∙ ap₂ (λ (x : ℕ) (gs : List Gate). bit (image_at note x).reached v && (ltb v (length gs) && (ltb last v && movable k gs note.chosen v))) place-is frame_is
      ∙ h.1
