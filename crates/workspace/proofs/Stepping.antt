-- One step more in a loop over groups, gates or states.
use Rattle.std.proofs.Common.{◌≡◌, ℕ, suc, ◌+◌, ◌-◌, ◌^◌, ◌<◌, ◌≤◌, Bool, true, false, cond, eqb, not, ◌&&◌, ◌||◌, List, [], ◌∷◌, length, get_or, drop, sym, refl, ap, ◌∙◌, ap₂, arith}
use mathlib.Core.Path.{fun_ext}
use lib.Bits.{bit_or}
use Rattle.std.proofs.Math.Bool.{or_assoc}
use Rattle.std.proofs.lemmas.Nat.{or_lt}
use Rattle.std.proofs.lemmas.List.{at_drop_more, at_drop_all}
use Rattle.std.proofs.lemmas.Bool.{both_ways, eq-eqb, eqb-true}
use Rattle.gates.specs.declared.gate.Gate.{Gate}
use Rattle.gates.specs.Lines.{State, width, bit, where_below, every_below}
use Rattle.gates.specs.ControlSets.{iff_same}
use Rattle.gates.specs.Kinds.{KindMeaning}
use Rattle.gates.specs.Cascades.{run, picked}
use Rattle.gates.specs.Members.{bit_none, set_ext, bit_where, where_lt, every_at}
use Rattle.gates.proofs.Masks.{bit-bit_or, bit_not}
use Rattle.workspace.specs.Templates.{TemplateMeaning, size, in_selected, outside_selected, unselected}
use Rattle.workspace.specs.TemplateTests.{agree, restores_test, whole_test}
use Rattle.workspace.proofs.WithoutPlaces.{picked_true}
use Rattle.workspace.proofs.Extending.{selected_none}
use Rattle.workspace.proofs.Deciding.{agree_of, agree_at}

-- what is left from place i on is what stands there, and what is left from the next place on
later : (i j : ℕ) → i + suc j ≡ i + 1 + j
later i j = omega arith

here : (i : ℕ) → i + 0 ≡ i
here i = omega arith

selected_next : (c : ℕ → Bool) (groups : List ℕ) (i p : ℕ) → i < length groups
    → in_selected (λ j. c (i + j)) (drop i groups) p ≡ ((c i && bit (get_or groups i 0) p) || in_selected (λ j. c (i + 1 + j)) (drop (i + 1) groups) p)
selected_next c groups i p lt =
    at_drop_more (λ xs. in_selected (λ j. c (i + j)) xs p) groups i 0 lt
    ∙ ap₂ (λ (x : ℕ) (d : ℕ → Bool). (c x && bit (get_or groups i 0) p) || in_selected d (drop (i + 1) groups) p) (here i) (fun_ext λ j. ap c (later i j))

pub picked_next : (c : ℕ → Bool) (gates : List Gate) (i : ℕ) (d : Gate) → i < length gates
    → picked (λ j. c (i + j)) (drop i gates) ≡ cond (c i) (get_or gates i d ∷ picked (λ j. c (i + 1 + j)) (drop (i + 1) gates)) (picked (λ j. c (i + 1 + j)) (drop (i + 1) gates))
picked_next c gates i d lt =
    at_drop_more (picked (λ j. c (i + j))) gates i d lt
    ∙ ap₂ (λ (x : ℕ) (e : ℕ → Bool). cond (c x) (get_or gates i d ∷ picked e (drop (i + 1) gates)) (picked e (drop (i + 1) gates))) (here i) (fun_ext λ j. ap c (later i j))

-- places count from 0
pub from_start : (c : ℕ → Bool) → (λ (j : ℕ). c (0 + j)) ≡ c
from_start c = fun_ext λ j. ap c (let same : 0 + j ≡ j = omega arith in same)

-- a position is in a selected group where it was found in one before the place, or is in one from the place on
pub record Found (groups : List ℕ) (selection place found : ℕ) : Type 0 where
  pub small : found < 2 ^ width
  pub is : (p : ℕ) → (bit found p || in_selected (λ i. bit selection (place + i)) (drop place groups) p) ≡ in_selected (bit selection) groups p

pub found_none : (groups : List ℕ) (selection : ℕ) → Found groups selection 0 0
found_none groups selection = record {
  small = omega arith;
  is = λ p.
      ap (λ (b : Bool). b || in_selected (λ i. bit selection (0 + i)) groups p) (bit_none p)
      ∙ ap (λ (d : ℕ → Bool). in_selected d groups p) (from_start (bit selection));
}

module _ (groups : List ℕ) (selection place found : ℕ) (lt : place < length groups) (before : Found groups selection place found) where
  -- what is left after the group at the place
  rest : ℕ → Bool
  rest p = in_selected (λ j. bit selection (place + 1 + j)) (drop (place + 1) groups) p

  step : (p : ℕ) → (bit found p || ((bit selection place && bit (get_or groups place 0) p) || rest p)) ≡ in_selected (bit selection) groups p
  unfolding rest
  step p = ap (λ (b : Bool). bit found p || b) (sym (selected_next (bit selection) groups place p lt)) ∙ before.is p

  pub found_more : get_or groups place 0 < 2 ^ width → true ≡ bit selection place → Found groups selection (place + 1) (bit_or found (get_or groups place 0))
  unfolding rest
  found_more fits e = record {
    small = or_lt width found (get_or groups place 0) before.small fits;
    is = λ p.
        ap (λ (b : Bool). b || rest p) (bit-bit_or found (get_or groups place 0) p)
        ∙ or_assoc (bit found p) (bit (get_or groups place 0) p) (rest p)
        ∙ ap (λ (b : Bool). bit found p || ((b && bit (get_or groups place 0) p) || rest p)) e
        ∙ step p;
  }

  pub found_skip : false ≡ bit selection place → Found groups selection (place + 1) found
  unfolding rest
  found_skip e = record {
    small = before.small;
    is = λ p. ap (λ (b : Bool). bit found p || ((b && bit (get_or groups place 0) p) || rest p)) e ∙ step p;
  }

-- past the last group, the others are the positions in none of the selected groups
pub found_all : (groups : List ℕ) (selection place found : ℕ) → length groups ≤ place → Found groups selection place found
    → 2 ^ width - 1 - found ≡ where_below width (outside_selected (bit selection) groups)
found_all groups selection place found end at =
    set_ext width (2 ^ width - 1 - found) (where_below width (outside_selected (bit selection) groups)) (omega (arith, at.small)) (where_lt width (outside_selected (bit selection) groups))
    (λ i lt. bit_not width found i at.small lt ∙ ap not (is i) ∙ sym (bit_where width (outside_selected (bit selection) groups) i lt))
  where
    or_false : (b : Bool) → (b || false) ≡ b
    or_false true = refl
    or_false false = refl

    is : (p : ℕ) → bit found p ≡ in_selected (bit selection) groups p
    is p =
        sym (or_false (bit found p))
        ∙ ap (λ (b : Bool). bit found p || b) (sym (at_drop_all (λ xs. in_selected (λ j. bit selection (place + j)) xs p) groups place end))
        ∙ at.is p

-- the chosen gates from the position on send the state reached to where all chosen gates send the state given
pub record Reached (k : KindMeaning) (gates : List Gate) (chosen state position reached : ℕ) : Type 0 where
  pub is : run k (picked (λ i. bit chosen (position + i)) (drop position gates)) (bit reached) ≡ run k (picked (bit chosen) gates) (bit state)

pub reached_none : (k : KindMeaning) (gates : List Gate) (chosen state : ℕ) → Reached k gates chosen state 0 state
reached_none k gates chosen state = record { is = ap (λ (c : ℕ → Bool). run k (picked c gates) (bit state)) (from_start (bit chosen)) }

module _ (k : KindMeaning) (gates : List Gate) (chosen state position reached : ℕ) (lt : position < length gates) (before : Reached k gates chosen state position reached) where
  pub reached_more : (new : ℕ) (d : Gate) → true ≡ bit chosen position → bit new ≡ k.sends (get_or gates position d) (bit reached) → Reached k gates chosen state (position + 1) new
  reached_more new d e sent = record {
    is =
        ap (run k (picked (λ j. bit chosen (position + 1 + j)) (drop (position + 1) gates))) sent
        ∙ ap (λ (b : Bool). run k (cond b (get_or gates position d ∷ picked (λ j. bit chosen (position + 1 + j)) (drop (position + 1) gates)) (picked (λ j. bit chosen (position + 1 + j)) (drop (position + 1) gates))) (bit reached)) e
        ∙ ap (λ (x : List Gate). run k x (bit reached)) (sym (picked_next (bit chosen) gates position d lt))
        ∙ before.is;
  }

  pub reached_skip : (d : Gate) → false ≡ bit chosen position → Reached k gates chosen state (position + 1) reached
  reached_skip d e = record {
    is =
        ap (λ (b : Bool). run k (cond b (get_or gates position d ∷ picked (λ j. bit chosen (position + 1 + j)) (drop (position + 1) gates)) (picked (λ j. bit chosen (position + 1 + j)) (drop (position + 1) gates))) (bit reached)) e
        ∙ ap (λ (x : List Gate). run k x (bit reached)) (sym (picked_next (bit chosen) gates position d lt))
        ∙ before.is;
  }

pub reached_all : (k : KindMeaning) (gates : List Gate) (chosen state position reached : ℕ) → length gates ≤ position → Reached k gates chosen state position reached
    → bit reached ≡ run k (picked (bit chosen) gates) (bit state)
reached_all k gates chosen state position reached end at =
    sym (at_drop_all (λ xs. run k (picked (λ j. bit chosen (position + j)) xs) (bit reached)) gates position end) ∙ at.is

-- one number that does not pass fails all
pub every_fails : (n i : ℕ) (P : ℕ → Bool) → i < n → P i ≡ false → every_below n P ≡ false
every_fails n i P lt e = at (every_below n P) refl
  where
    at : (b : Bool) → every_below n P ≡ b → every_below n P ≡ false
    at true h = absurd (both_ways (P i) e (every_at n P h i lt))
    at false h = h

-- numbers as states: they agree where they are equal
pub agree_tested : (r x : ℕ) (s : State) → r < 2 ^ width → x < 2 ^ width → bit r ≡ s → eqb r x ≡ agree s (bit x)
agree_tested r x s lr lx is =
    iff_same _ _ (λ same. agree_of s (bit x) (sym is ∙ ap bit (eqb-true r x same)))
    (λ agreed. eq-eqb r x (set_ext width r x lr lx (λ i lt. ap (λ (u : State). u i) is ∙ agree_at s (bit x) agreed i lt)))

-- whether the chosen gates restore the state that a number stands for
abbrev pub restored : KindMeaning → List Gate → ℕ → ℕ → Bool
restored k gates chosen x = agree (run k (picked (bit chosen) gates) (bit x)) (bit x)

-- places count only as far as there are gates
picked_same : (c d : ℕ → Bool) (gates : List Gate) → ((i : ℕ) → i < length gates → c i ≡ d i) → picked c gates ≡ picked d gates
picked_same c d [] h = refl
picked_same c d (g ∷ gates) h =
    ap₂ (λ (b : Bool) (r : List Gate). cond b (g ∷ r) r) (h 0 (omega arith)) (picked_same (λ i. c (suc i)) (λ i. d (suc i)) gates (λ i lt. h (suc i) (omega arith)))

-- whether, for one selection, the gates in none of the selected groups restore the states
abbrev pub part_test : KindMeaning → TemplateMeaning → ℕ → Bool
part_test k t m = restores_test k t.lines (unselected (bit m) t)

-- it is tried with the positions of those gates, as a set
pub part_tested : (k : KindMeaning) (t : TemplateMeaning) (m chosen : ℕ) (answer : Bool) → size t ≤ 8 → chosen ≡ where_below width (outside_selected (bit m) t.groups)
    → answer ≡ restores_test k t.lines (picked (bit chosen) t.gates) → part_test k t m ≡ answer
part_tested k t m chosen answer few is tried =
    sym (tried ∙ ap (restores_test k t.lines)
    (picked_same (bit chosen) (outside_selected (bit m) t.groups) t.gates
    (λ i lt. ap (λ (x : ℕ). bit x i) is ∙ bit_where width (outside_selected (bit m) t.groups) i (omega arith))))

-- with none selected, these are all gates
pub part_whole : (k : KindMeaning) (t : TemplateMeaning) → part_test k t 0 ≡ whole_test k t
part_whole k t =
    ap (restores_test k t.lines) (picked_same (outside_selected (bit 0) t.groups) (λ _. true) t.gates (λ i lt. ap not (none i)) ∙ picked_true t.gates)
  where
    none : (p : ℕ) → in_selected (bit 0) t.groups p ≡ false
    none p = ap (λ (c : ℕ → Bool). in_selected c t.groups p) (fun_ext bit_none) ∙ selected_none t.groups p
