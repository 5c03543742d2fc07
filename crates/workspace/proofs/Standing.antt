-- Whether the images of a template's gates can stand somewhere, by sets of distances.
use Rattle.std.proofs.Common.{◌≡◌, ℕ, zero, suc, ◌^◌, ◌<◌, Bool, true, false, not, ◌&&◌, eqb, ◌⊎◌, List, [], ◌∷◌, get_or, take, sym, refl, ap, ◌∙◌, ap₂, inl, inr, arith}
use Rattle.std.specs.List.{list_all}
use Rattle.std.proofs.lemmas.Bool.{and_from, cases_eq, eq-eqb, ne_eqb}
use Rattle.fixed_list.specs.Lists.{contents}
use Rattle.gates.specs.declared.gate.Gate.{Gate}
use Rattle.gates.specs.Lines.{bit, every_below}
use Rattle.gates.specs.Kinds.{KindMeaning}
use Rattle.gates.specs.Members.{bit_none, set_ext, every_of, every_at}
use Rattle.workspace.specs.declared.notes.Note.{Note}
use Rattle.workspace.specs.Notes.{blank_image, can_stand, some_of, gate_of_lem, image_at, possible}
use Rattle.workspace.specs.Starts.{IsSet}
use Rattle.workspace.proofs.Stepping.{every_fails}

-- a set of distances that is made of another has a member where some member of that satisfies P
module _ (set r : ℕ) (P : ℕ → Bool) (is : IsSet r (λ d. bit set d && P d)) where
  pub none_of : r ≡ 0 → some_of set P ≡ false
  none_of e = ap not (every_of 64 (λ d. not (bit set d && P d)) (λ d l. ap not (sym (is d l) ∙ ap (λ (x : ℕ). bit x d) e ∙ bit_none d)))

  pub one_of : r < 2 ^ 64 → (r ≡ 0 → ⊥) → some_of set P ≡ true
  one_of fits ne = ap not (at (every_below 64 (λ d. not (bit set d && P d))) refl)
    where
      never : (b : Bool) → not b ≡ true → b ≡ false
      never true e = sym e
      never false e = refl

      at : (b : Bool) → every_below 64 (λ d. not (bit set d && P d)) ≡ b → every_below 64 (λ d. not (bit set d && P d)) ≡ false
      at false e = e
      at true e =
          absurd (ne (set_ext 64 r 0 fits (omega arith) (λ d l. is d l ∙ never (bit set d && P d) (every_at 64 (λ d. not (bit set d && P d)) e d l) ∙ sym (bit_none d))))

  pub some_of_it : r < 2 ^ 64 → not (eqb r 0) ≡ some_of set P
  some_of_it fits = by (cases_eq r 0)
    where
      by : (r ≡ 0) ⊎ (r ≡ 0 → ⊥) → not (eqb r 0) ≡ some_of set P
      by (inl e) = ap not (eq-eqb r 0 e) ∙ sym (none_of e)
      by (inr ne) = ap not (ne_eqb r 0 ne) ∙ sym (one_of fits ne)

pub some_there : (set : ℕ) (P : ℕ → Bool) (d : ℕ) → d < 64 → bit set d ≡ true → P d ≡ true → some_of set P ≡ true
some_there set P d l here holds = ap not (every_fails 64 d (λ d. not (bit set d && P d)) l (ap₂ (λ (a b : Bool). not (a && b)) here holds))

-- the first few items pass where each of them does
all_of : {X : Type 0} (p : X → Bool) (d : X) (few : ℕ) (xs : List X) → ((j : ℕ) → j < few → p (get_or xs j d) ≡ true) → list_all p (take few xs) ≡ true
all_of p d zero xs h = refl
all_of p d (suc few) [] h = refl
all_of p d (suc few) (x ∷ xs) h = and_from (p x) (list_all p (take few xs)) (h 0 (omega arith)) (all_of p d few xs (λ j l. h (suc j) (omega arith)))

pub possible_of : (k : KindMeaning) (frame : List Gate) (note : Note) (i x few : ℕ)
    → ((j : ℕ) → j < few → some_of (image_at note j).reached (can_stand k frame (gate_of_lem note j) i x) ≡ true) → possible k frame note few i x ≡ true
possible_of k frame note i x few = all_of (λ m. some_of m.reached (can_stand k frame m.member.gate i x)) blank_image few (contents note.images)
