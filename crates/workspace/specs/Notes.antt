-- What a note says of the occurrences whose keys begin with a prefix.
use Rattle.std.specs.Prelude.{◌≡◌, ℕ, ◌+◌, ◌-◌, ◌<◌, ◌≤◌, Bool, true, not, ◌&&◌, List, ◌∷◌, length, map, take, drop, replicate, nat_lt, slice_index, slice_index_or}
use Rattle.std.specs.List.{list_all}
use Rattle.fixed_list.specs.declared.fixed_list.FixedList.{FixedList}
use Rattle.fixed_list.specs.Lists.{contents}
use Rattle.gates.specs.declared.gate.Gate.{Gate}
use Rattle.gates.specs.Controls.{gate}
use Rattle.gates.specs.Lines.{bit, every_below}
use Rattle.gates.specs.Kinds.{KindMeaning}
use Rattle.workspace.specs.declared.notes.Image.{Image}
use Rattle.workspace.specs.declared.notes.Note.{Note}
use Rattle.workspace.specs.Templates.{TemplateMeaning}
use Rattle.workspace.specs.Turns.{Placed, at_position}
use Rattle.workspace.specs.TurnTests.{has_number_lem}
use Rattle.workspace.specs.Conditions.{Condition}
use Rattle.workspace.specs.Occurrences.{Occurrence, places, template_on}
use Rattle.workspace.specs.Matching.{posed}
use Rattle.workspace.specs.Prefixes.{Begun}
use Rattle.workspace.specs.Starts.{IsSet, at_distance, same_role}

-- what a read past the images gives
abbrev pub blank_image : Image
blank_image = record { member = record { position = 0; gate = gate 0 0 0 0 }; reached = 0 }

-- the j-th image of a note
abbrev pub image_at : Note → ℕ → Image
image_at note j = slice_index_or (contents note.images) j blank_image

-- the posed gates with their positions
abbrev pub members_in : {most : ℕ} → FixedList Image most → List Placed
members_in images = map (λ m. at_position m.member.position m.member.gate) (contents images)

-- the note fits an occurrence of the template e whose key begins with the prefix
pub record NoteFits (k : KindMeaning) (e : TemplateMeaning) (prefix : List ℕ) (note : Note) (o : Occurrence) : Type 0 where
  -- the template is posed as the occurrence has it
  pub posed_so : members_in note.images ≡ posed k e o.turn.back o.turn.rotation o.turn.flips
  -- each chosen gate stands at a distance at which it can
  pub reached_so : (j : ℕ) → j < length (places o) → bit (image_at note j).reached (slice_index (places o) j - o.first) ≡ true
  -- the distances chosen are 0 and those that the prefix has
  pub chosen_so : (d : ℕ) → d < 64 → bit note.chosen d ≡ has_number_lem (0 ∷ drop (6 + e.lines) prefix) d

-- the note of a prefix: once the template is posed, it fits every occurrence whose key begins so
abbrev pub Noted : KindMeaning → Condition → List ℕ → Note → Type 0
Noted k c prefix note = 6 ≤ length prefix → (o : Occurrence) → Begun k c prefix o → NoteFits k (template_on c.shelf o) prefix note o

-- the image of a template's gate can stand at distance d of the frame, where line x is the image of its line i
abbrev pub can_stand : KindMeaning → List Gate → Gate → ℕ → ℕ → ℕ → Bool
can_stand k frame t i x d = nat_lt d (length frame) && same_role k t i (at_distance frame d) x

-- some number below 64 is in the set and satisfies P
abbrev pub some_of : ℕ → (ℕ → Bool) → Bool
some_of set P = not (every_below 64 (λ d. not (bit set d && P d)))

-- the gate of the j-th image
abbrev pub gate_of_lem : Note → ℕ → Gate
gate_of_lem note j = (image_at note j).member.gate

-- each of the gates can still stand somewhere, where line x is the image of line i
abbrev pub all_stand : KindMeaning → List Gate → List Image → ℕ → ℕ → Bool
all_stand k frame images i x = list_all (λ m. some_of m.reached (can_stand k frame m.member.gate i x)) images

-- each of the first few gates can still stand somewhere, where line x is the image of line i
abbrev pub possible : KindMeaning → List Gate → Note → ℕ → ℕ → ℕ → Bool
possible k frame note few i x = all_stand k frame (take few (contents note.images)) i x

-- the same gate, which is left the distances at which it can stand where line x is the image of line i
pub record Narrows (k : KindMeaning) (frame : List Gate) (i x : ℕ) (above below : Image) : Type 0 where
  pub member : below.member ≡ above.member
  pub reached : IsSet below.reached (λ d. bit above.reached d && can_stand k frame above.member.gate i x d)

-- where the images of the gates can stand before any line is known: the first at the first place, the others behind it
abbrev pub open_reach : List ℕ
open_reach = 1 ∷ replicate 7 18446744073709551614
