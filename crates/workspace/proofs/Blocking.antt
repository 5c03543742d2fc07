-- Whatever blocks a chosen gate is chosen too.
use Rattle.std.proofs.Common.{◌≡◌, ℕ, suc, ◌+◌, ◌<◌, ◌≤◌, Bool, true, false, ◌&&◌, ◌||◌, ltb, ◌⊎◌, List, [], length, get_or, drop, refl, ap, ◌∙◌, subst, ap₂, inl, inr, arith}
use Rattle.std.proofs.lemmas.List.{get_or-take, length-drop}
use Rattle.std.proofs.lemmas.Bool.{cases_lt, lt-ltb, and_from, or_left, or_right}
use Rattle.gates.specs.declared.gate.Gate.{Gate}
use Rattle.gates.specs.Lines.{bit}
use Rattle.gates.specs.Controls.{gate}
use Rattle.gates.specs.Kinds.{KindMeaning}
use Rattle.gates.specs.Members.{every_of}
use Rattle.workspace.specs.Conditions.{EntryMeaning}
use Rattle.workspace.specs.Matching.{frame_at}
use Rattle.workspace.specs.Occurrences.{Occurrence, places, is_chosen, OccursAs}
use Rattle.workspace.specs.Starts.{at_distance, movable}
use Rattle.workspace.specs.TurnTests.{has_number_lem}
use Rattle.workspace.proofs.DecidingTurns.{decides_has}
use Rattle.workspace.proofs.Frames.{distance, place_from, place_inside, distance_near, distance_rises, distance_inside}
use Rattle.workspace.proofs.Occurring.{moved}

module _ (k : KindMeaning) (n : ℕ) (gates : List Gate) (shelf : List EntryMeaning) (o : Occurrence) (is : OccursAs k n gates shelf o) where
  -- a gate in the frame is the one so far behind the first place
  framed : (d : ℕ) → d < 32 → at_distance (frame_at gates o.first) d ≡ get_or (drop o.first gates) d (gate 0 0 0 0)
  framed d l = get_or-take 32 (drop o.first gates) d (gate 0 0 0 0) l

  chosen_at : (j : ℕ) → j < length (places o) → is_chosen o (distance o j) ≡ true
  chosen_at j l =
      ap (has_number_lem (places o)) (let e : o.first + distance o j ≡ get_or (places o) j 0 = omega (arith, place_from k n gates shelf o is j l) in e) ∙ (decides_has (places o) (get_or (places o) j 0)).1 (j, l, refl)

  module _ (j chosen : ℕ) (more : suc j < length (places o)) (so_far : (i : ℕ) → i ≤ j → bit chosen (distance o i) ≡ true) where
    -- each gate before the next chosen one is chosen or interchanges with it
    pub next_movable : movable k (frame_at gates o.first) chosen (distance o (suc j)) ≡ true
    next_movable = every_of (distance o (suc j)) _ (λ e l. by e l (is_chosen o e) refl)
      where
        d : ℕ
        d = distance o (suc j)

        earlier : (e : ℕ) → e < d → (i : ℕ) × (i < length (places o)) × (get_or (places o) i 0 ≡ o.first + e) → bit chosen e ≡ true
        earlier e l (i, il, q) =
            let same : distance o i ≡ e = omega arith in
            subst (λ (x : ℕ). bit chosen x ≡ true) same (so_far i (before (cases_lt i (suc j)) same))
          where
            before : (i < suc j) ⊎ (suc j ≤ i) → distance o i ≡ e → i ≤ j
            before (inl lt) same = omega arith
            before (inr ge) same = absurd (let z : ⊥ = late (cases_lt (suc j) i) in z)
              where
                late : (suc j < i) ⊎ (i ≤ suc j) → ⊥
                late (inl lt) = omega (arith, distance_rises k n gates shelf o is (suc j) i lt il)
                late (inr le) = let equal : i ≡ suc j = omega arith in omega (arith, ap (distance o) equal)

        by : (e : ℕ) → e < d → (b : Bool) → is_chosen o e ≡ b → (bit chosen e || k.free (at_distance (frame_at gates o.first) e) (at_distance (frame_at gates o.first) d)) ≡ true
        by e l true c = or_left (bit chosen e) _ (earlier e l ((decides_has (places o) (o.first + e)).0 c))
        by e l false c =
            let near = distance_near k n gates shelf o is (suc j) more in
            let within : d < length (drop o.first gates) = omega (arith, length-drop o.first gates, place_inside k n gates shelf o is (suc j) more, place_from k n gates shelf o is (suc j) more) in
            or_right (bit chosen e) _
            (ap₂ k.free (framed e (omega arith)) (framed d near)
            ∙ (moved k (is_chosen o) [] (drop o.first gates) is.moves).1 e d (gate 0 0 0 0) l within c (chosen_at (suc j) more))

    -- the distance of the next place is eligible
    pub next_eligible : (ltb (distance o (suc j)) (length (frame_at gates o.first)) && (ltb (distance o j) (distance o (suc j)) && movable k (frame_at gates o.first) chosen (distance o (suc j)))) ≡ true
    next_eligible =
        and_from _ _ (lt-ltb (distance o (suc j)) _ (distance_inside k n gates shelf o is (suc j) more))
        (and_from _ _ (lt-ltb (distance o j) (distance o (suc j)) (distance_rises k n gates shelf o is j (suc j) (omega arith) more)) next_movable)
