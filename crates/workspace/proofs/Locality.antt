-- An occurrence is decided by its template and by the gates of its frame: those from its first place on that it can reach.
use Rattle.std.proofs.Common.{◌≡◌, ℕ, zero, suc, ◌+◌, ◌-◌, ◌*◌, ◌<◌, ◌≤◌, Bool, true, false, cond, ◌&&◌, eqb, List, [], ◌∷◌, ◌++◌, length, get_or, take, drop, sym, refl, ap, ◌∙◌, subst, ap₂, arith}
use Rattle.std.specs.List.{AllByRecursion}
use Rattle.std.proofs.lemmas.List.{get_or-take, get_or-drop, length-take, length-drop}
use Rattle.std.proofs.lemmas.Bool.{ne_eqb, or_from}
use Rattle.gates.specs.declared.gate.Gate.{Gate}
use Rattle.gates.specs.Controls.{gate}
use Rattle.gates.specs.Kinds.{KindMeaning}
use Rattle.workspace.specs.Templates.{TemplateMeaning, size}
use Rattle.workspace.specs.Turns.{IsTurn, placed, turned, turned_gates}
use Rattle.workspace.specs.TurnTests.{has_number_lem}
use Rattle.workspace.specs.Conditions.{EntryMeaning}
use Rattle.workspace.specs.Occurrences.{Occurrence, places, template_on, at_places, beside, asks, gathered, passes, moves_front, is_chosen, Rising, OccursAs}
use Rattle.workspace.specs.Matching.{frame_at}

-- the place is within reach of the first
abbrev Near : ℕ → ℕ → Type 0
Near first q = (first ≤ q) × (q ≤ first + 31)

near_later : (first r : ℕ) (xs : List ℕ) → first ≤ r → Rising r xs → AllByRecursion (λ q. q ≤ first + 31) xs → AllByRecursion (Near first) xs
near_later first r [] le h all = tt
near_later first r (x ∷ xs) le h all = ((omega (arith, h.0), all.0), near_later first (suc x) xs (omega (arith, h.0)) h.1 all.1)

-- all places of an occurrence are within reach of its first
pub near_places : (o : Occurrence) → Rising (suc o.first) o.later → AllByRecursion (λ q. q ≤ o.first + 31) o.later → AllByRecursion (Near o.first) (places o)
near_places o h all = ((omega arith, omega arith), near_later o.first (suc o.first) o.later (omega arith) h all)

-- the frame has the gate of a near place
pub in_frame : (gates : List Gate) (first q : ℕ) (d : Gate) → Near first q → get_or (frame_at gates first) (q - first) d ≡ get_or gates q d
in_frame gates first q d near =
    get_or-take 32 (drop first gates) (q - first) d (omega (arith, near.0, near.1))
    ∙ get_or-drop first gates (q - first) d
    ∙ ap (λ (i : ℕ). get_or gates i d) (let e : first + (q - first) ≡ q = omega (arith, near.0) in e)

-- so the gates at the places are those of the frame
pub at_near : (gates now : List Gate) (first : ℕ) → frame_at now first ≡ frame_at gates first → (xs : List ℕ) → AllByRecursion (Near first) xs → at_places now xs ≡ at_places gates xs
at_near gates now first same [] near = refl
at_near gates now first same (q ∷ xs) near =
    ap₂ ◌∷◌
    (sym (in_frame now first q (gate 0 0 0 0) near.0) ∙ ap (λ (f : List Gate). get_or f (q - first) (gate 0 0 0 0)) same ∙ in_frame gates first q (gate 0 0 0 0) near.0)
    (at_near gates now first same xs near.1)

-- and a near place is there exactly where the frame has it
pub inside_near : (gates now : List Gate) (first : ℕ) → frame_at now first ≡ frame_at gates first → (xs : List ℕ) → AllByRecursion (Near first) xs → AllByRecursion (λ q. q < length gates) xs → AllByRecursion (λ q. q < length now) xs
inside_near gates now first same [] near all = tt
inside_near gates now first same (q ∷ xs) near all =
    (omega (arith, near.0.0, near.0.1, all.0, ap length same, length-take 32 (drop first gates), length-take 32 (drop first now), length-drop first gates, length-drop first now), inside_near gates now first same xs near.1 all.1)

-- none of the places is past the frame
past_near : (first : ℕ) (xs : List ℕ) (j : ℕ) → AllByRecursion (Near first) xs → first + 32 ≤ j → has_number_lem xs j ≡ false
past_near first [] j near le = refl
past_near first (q ∷ xs) j near le = or_from (eqb q j) (has_number_lem xs j) (ne_eqb q j (λ e. omega (arith, near.0.1))) (past_near first xs j near.1 le)

-- where none is chosen, there is nothing to move
none_moves : (k : KindMeaning) (c : ℕ → Bool) (passed gates : List Gate) → ((i : ℕ) → c i ≡ false) → moves_front k c passed gates ≡ true
none_moves k c passed [] none = refl
none_moves k c passed (g ∷ gates) none =
    ap (λ (b : Bool). cond b (passes k passed g && moves_front k (λ i. c (suc i)) passed gates) (moves_front k (λ i. c (suc i)) (passed ++ g ∷ []) gates)) (none 0)
    ∙ none_moves k (λ i. c (suc i)) (passed ++ g ∷ []) gates (λ i. none (suc i))

-- what stands from place n on does not matter where none of it is chosen
pub front_moves : (k : KindMeaning) (n : ℕ) (c : ℕ → Bool) (passed gates : List Gate) → ((i : ℕ) → n ≤ i → c i ≡ false) → moves_front k c passed (take n gates) ≡ moves_front k c passed gates
front_moves k zero c passed gates none = sym (none_moves k c passed gates (λ i. none i (omega arith)))
front_moves k (suc n) c passed [] none = refl
front_moves k (suc n) c passed (g ∷ gates) none =
    ap₂ (λ (u v : Bool). cond (c 0) (passes k passed g && u) v)
    (front_moves k n (λ i. c (suc i)) passed gates (λ i le. none (suc i) (omega arith)))
    (front_moves k n (λ i. c (suc i)) (passed ++ g ∷ []) gates (λ i le. none (suc i) (omega arith)))

-- the chosen gates move to the front of the list where they do so in the frame
pub frame_moves : (k : KindMeaning) (gates : List Gate) (o : Occurrence) → AllByRecursion (Near o.first) (places o)
    → moves_front k (is_chosen o) [] (frame_at gates o.first) ≡ moves_front k (is_chosen o) [] (drop o.first gates)
frame_moves k gates o near = front_moves k 32 (is_chosen o) [] (drop o.first gates) (λ i le. past_near o.first (places o) (o.first + i) near (omega arith))

-- an occurrence stays one where its frame, its template and the length of the shelf stay
pub same_frame : (k : KindMeaning) (n : ℕ) (gates now : List Gate) (shelf other : List EntryMeaning) (o : Occurrence)
    → frame_at now o.first ≡ frame_at gates o.first → length other ≡ length shelf → template_on other o ≡ template_on shelf o
    → OccursAs k n gates shelf o → OccursAs k n now other o
same_frame k n gates now shelf other o frame long template is =
    let near = near_places o is.rising is.near in
    let there = at_near gates now o.first frame (places o) near in
    record {
      listed = omega (arith, is.listed);
      turn = subst (λ (e : TemplateMeaning). IsTurn k n e o.turn) (sym template) is.turn;
      strict = subst (λ (e : TemplateMeaning). size e < 2 * length (places o)) (sym template) is.strict;
      within = subst (λ (e : TemplateMeaning). length (places o) ≤ size e) (sym template) is.within;
      rising = is.rising;
      inside = inside_near gates now o.first frame (places o) near is.inside;
      near = is.near;
      adds = is.adds;
      extension =
          ap₂ (λ (e : TemplateMeaning) (gs : List Gate). gathered (asks o.turn.table e.groups (beside (turned k o.turn (placed e.gates)) gs)) n) template there ∙ is.extension;
      equal = there ∙ is.equal ∙ ap (λ (e : TemplateMeaning). take (length (places o)) (turned_gates k e o.turn is.adds)) (sym template);
      moves =
          sym (frame_moves k now o near) ∙ ap (moves_front k (is_chosen o) []) frame ∙ frame_moves k gates o near ∙ is.moves;
    }
