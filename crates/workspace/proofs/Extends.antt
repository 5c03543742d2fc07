-- A turned template extended line by line, and the chosen gates beside it.
use Rattle.std.proofs.Common.{◌≡◌, ℕ, zero, suc, ◌+◌, ◌<◌, ◌≤◌, ◌⊎◌, List, [], ◌∷◌, map, length, get_or, drop, Some, None, Ok, Err, Option, Result, sym, refl, ap, ◌∙◌, ap₂, inl, inr, arith}
use Rattle.std.specs.List.{AllByRecursion, zip}
use Rattle.std.proofs.lemmas.Slice.Zip.{length-zip}
use Rattle.std.proofs.lemmas.List.{get_or-take, get_or-drop, length-map}
use Rattle.std.proofs.lemmas.Bool.{cases_eq}
use Rattle.std.specs.Result.{IsErr}
use Rattle.fixed_list.specs.declared.fixed_list.FixedList.{FixedList}
use Rattle.gates.specs.declared.gate.Gate.{Gate}
use Rattle.gates.specs.declared.gate.Sign.{Sign}
use Rattle.gates.specs.Kinds.{KindMeaning}
use Rattle.workspace.specs.declared.asking.Addition.{Addition}
use Rattle.workspace.specs.declared.asking.NoGroup.{NoGroup}
use Rattle.workspace.specs.declared.posed.Member.{Member}
use Rattle.workspace.specs.Turns.{Placed, at_position, on_gate, Added, added, extended}
use Rattle.workspace.specs.Occurrences.{at_places, beside, Asked, joined_to, gathered}
use Rattle.workspace.specs.Occurrences.Asked.{nothing, control_on, refused}
use Rattle.workspace.specs.Matching.{frame_at}
use Rattle.workspace.specs.Extensions.{added_of, answer_of, controlled_in, extended_by, posed_of}
use Rattle.workspace.specs.Posing.{placed_of}
use Rattle.workspace.proofs.Poses.{no_gate}

-- the chosen gates are those of the frame
pub frame_places : (gates frame : List Gate) (first : ℕ) (ds : List ℕ) → frame ≡ frame_at gates first → AllByRecursion (λ q. q ≤ first + 31) (map (λ d. first + d) ds)
    → at_places frame (0 ∷ ds) ≡ at_places gates (first ∷ map (λ d. first + d) ds)
frame_places gates frame first ds is near = ap₂ ◌∷◌ (at 0 (omega arith) ∙ ap (λ (i : ℕ). get_or gates i no_gate) (let e : first + 0 ≡ first = omega arith in e)) (rest ds near)
  where
    at : (d : ℕ) → first + d ≤ first + 31 → get_or frame d no_gate ≡ get_or gates (first + d) no_gate
    at d le = ap (λ (f : List Gate). get_or f d no_gate) is ∙ get_or-take 32 (drop first gates) d no_gate (omega arith) ∙ get_or-drop first gates d no_gate

    rest : (xs : List ℕ) → AllByRecursion (λ q. q ≤ first + 31) (map (λ d. first + d) xs) → at_places frame xs ≡ at_places gates (map (λ d. first + d) xs)
    rest [] h = refl
    rest (d ∷ xs) h = ap₂ ◌∷◌ (at d h.0) (rest xs h.1)

-- a refusal holds no gates
pub posed_refused : (r : Result (FixedList Member 8) NoGroup) → IsErr r → posed_of r ≡ None
posed_refused (Ok p) is = absurd (let z : ◌≡◌ {A = ℕ} 0 1 = cc in omega arith)
posed_refused (Err refusal) is = refl

-- the gates put in the stead of the members' own, pair by pair
abbrev pub standing_of : List Member → List Gate → List Member
standing_of ms gs = map (λ (p : Member × Gate). record { position = p.0.position; gate = p.1 }) (zip ms gs)

pub standing_few : (ms : List Member) (gs : List Gate) → length (standing_of ms gs) ≤ length ms
standing_few ms gs = omega (arith, length-map {B = Member} (zip ms gs) (λ (p : Member × Gate). record { position = p.0.position; gate = p.1 }), length-zip ms gs)

pub beside_zip : (ms : List Member) (gs : List Gate) → placed_of (standing_of ms gs) ≡ beside (placed_of ms) gs
beside_zip [] gs = refl
beside_zip (m ∷ ms) [] = refl
beside_zip (m ∷ ms) (g ∷ gs) = ap (λ (r : List Placed). at_position m.position g ∷ r) (beside_zip ms gs)

module _ (k : KindMeaning) (groups : List ℕ) where
  -- the gates with the control that a line is answered, if any
  abbrev pub with_answer : Option Addition → List Placed → List Placed
  with_answer None xs = xs
  with_answer (Some a) xs = map (controlled_in k groups (added_of a)) xs

  -- with one control more on a group
  extended_more : (a : Added) (adds : List Added) (xs : List Placed) → map (controlled_in k groups a) (extended k groups adds xs) ≡ extended k groups (a ∷ adds) xs
  extended_more a adds [] = refl
  extended_more a adds (x ∷ xs) = ap (λ (r : List Placed). controlled_in k groups a (on_gate (added k groups adds x.position) x) ∷ r) (extended_more a adds xs)

  extended_none : (xs : List Placed) → xs ≡ extended k groups [] xs
  extended_none [] = refl
  extended_none (x ∷ xs) = ap (λ (r : List Placed). x ∷ r) (extended_none xs)

  module _ (xs : List Placed) (ask : ℕ → Asked) where
    pub by_none : Some xs ≡ extended_by k groups xs (gathered ask 0)
    by_none = ap Some (extended_none xs)

    -- one line more
    next_line : (l : ℕ) (a : Asked) → a ≡ ask l → gathered ask (l + 1) ≡ joined_to l a (gathered ask l)
    next_line l a e = let next : l + 1 ≡ suc l = omega arith in ap (gathered ask) next ∙ ap (λ (b : Asked). joined_to l b (gathered ask l)) (sym e)

    by_nothing : (l : ℕ) (ys : List Placed) → nothing ≡ ask l → Some ys ≡ extended_by k groups xs (gathered ask l) → Some ys ≡ extended_by k groups xs (gathered ask (l + 1))
    by_nothing l ys e before = before ∙ ap (extended_by k groups xs) (sym (next_line l nothing e))

    by_control : (l : ℕ) (ys : List Placed) (sign : Sign) (group : ℕ) → control_on sign group ≡ ask l → Some ys ≡ extended_by k groups xs (gathered ask l)
        → Some (map (controlled_in k groups record { line = l; sign = sign; group = group }) ys) ≡ extended_by k groups xs (gathered ask (l + 1))
    by_control l ys sign group e before = at (gathered ask l) before ∙ ap (extended_by k groups xs) (sym (next_line l (control_on sign group) e))
      where
        a : Added
        a = record { line = l; sign = sign; group = group }

        at : (r : Option (List Added)) → Some ys ≡ extended_by k groups xs r
            → Some (map (controlled_in k groups record { line = l; sign = sign; group = group }) ys) ≡ extended_by k groups xs (joined_to l (control_on sign group) r)
        at None h = absurd (let z : ◌≡◌ {A = ℕ} 0 1 = cc in omega arith)
        at (Some adds) h =
            let same : ys ≡ extended k groups adds xs = cc in
            ap (λ (zs : List Placed). Some (map (controlled_in k groups record { line = l; sign = sign; group = group }) zs)) same
            ∙ ap Some (extended_more record { line = l; sign = sign; group = group } adds xs)

    -- one line more, by its answer
    pub by_answer : (l : ℕ) (ys zs : List Placed) (r : Option Addition) → Ok r ≡ answer_of l (ask l) → zs ≡ with_answer r ys → Some ys ≡ extended_by k groups xs (gathered ask l)
        → Some zs ≡ extended_by k groups xs (gathered ask (l + 1))
    by_answer l ys zs r is made before = at (ask l) refl r is made
      where
        at : (a : Asked) → a ≡ ask l → (r : Option Addition) → Ok r ≡ answer_of l a → zs ≡ with_answer r ys → Some zs ≡ extended_by k groups xs (gathered ask (l + 1))
        at nothing e r is made = let none : r ≡ None = cc in ap Some (made ∙ ap (λ (r : Option Addition). with_answer r ys) none) ∙ by_nothing l ys e before
        at (control_on sign group) e r is made =
            let some : r ≡ Some record { line = l; sign = sign; group = group } = cc in
            ap Some (made ∙ ap (λ (r : Option Addition). with_answer r ys) some) ∙ by_control l ys sign group e before
        at refused e r is made = absurd (let z : ◌≡◌ {A = ℕ} 0 1 = cc in omega arith)

    joined_none : (l : ℕ) (a : Asked) → joined_to l a None ≡ None
    joined_none l nothing = refl
    joined_none l (control_on sign group) = refl
    joined_none l refused = refl

    refused_at : (l n : ℕ) → l < n → refused ≡ ask l → gathered ask n ≡ None
    refused_at l zero lt e = absurd (let z : ⊥ = omega arith in z)
    refused_at l (suc n) lt e = at (cases_eq l n) (λ less. refused_at l n less e)
      where
        at : (l ≡ n) ⊎ (l ≡ n → ⊥) → (l < n → gathered ask n ≡ None) → gathered ask (suc n) ≡ None
        at (inl same) ih = ap (λ (b : Asked). joined_to n b (gathered ask n)) (ap ask (sym same) ∙ sym e)
        at (inr other) ih = ap (joined_to n (ask n)) (ih (omega arith)) ∙ joined_none n (ask n)

    pub by_refused : (l n : ℕ) (refusal : NoGroup) → l < n → Err refusal ≡ answer_of l (ask l) → None ≡ extended_by k groups xs (gathered ask n)
    by_refused l n refusal lt is = sym (ap (extended_by k groups xs) (refused_at l n lt (at (ask l) is)))
      where
        at : (a : Asked) → Err refusal ≡ answer_of l a → refused ≡ a
        at nothing e = absurd (let z : ◌≡◌ {A = ℕ} 0 1 = cc in omega arith)
        at (control_on sign group) e = absurd (let z : ◌≡◌ {A = ℕ} 0 1 = cc in omega arith)
        at refused e = refl
