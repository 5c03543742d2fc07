-- Frames: how one is loaded, and the gates at the places of an occurrence in it.
use Rattle.std.proofs.Common.{◌≡◌, ℕ, zero, suc, ◌+◌, ◌-◌, ◌<◌, ◌≤◌, min, max, map, ltb, refl, Bool, cond, ◌⊎◌, List, [], ◌∷◌, length, get_or, take, drop, Ok, Err, Result, sym, ap, ◌∙◌, inl, inr, arith}
use Rattle.std.specs.Result.{result_unwrap_or}
use Rattle.std.specs.List.{range_with_len}
use Rattle.std.proofs.ByRecursion.{All-get_or}
use Rattle.std.proofs.lemmas.List.{take_all, drop_more, get_or_past, get_or-drop, get_or-take, length-drop, length-take}
use Rattle.std.proofs.lemmas.Bool.{cases_lt, lt-ltb, le-ltb}
use Rattle.gates.specs.declared.gate.Gate.{Gate}
use Rattle.gates.specs.Controls.{gate}
use Rattle.gates.specs.Kinds.{KindMeaning}
use Rattle.stores.specs.declared.refusal.StoreRefusal.{StoreRefusal}
use Rattle.stores.specs.declared.refusal.StoreRefusal.TheVariants.{NoSuchPlace}
use Rattle.stores.specs.Stores.{StoreMeaning, read_outcome, at}
use Rattle.workspace.specs.Matching.{frame_at}
use Rattle.workspace.specs.Conditions.{EntryMeaning}
use Rattle.workspace.specs.Occurrences.{Occurrence, places, Rising, OccursAs}
use Rattle.workspace.specs.Starts.{at_distance}

-- what is read at a place is the gate there, a blank one where there is none
pub read_any : (m : StoreMeaning) (place : ℕ) (r : Result Gate StoreRefusal) (g : Gate) → r ≡ read_outcome m place → g ≡ result_unwrap_or r (gate 0 0 0 0) → g ≡ get_or m.gates place (gate 0 0 0 0)
read_any m place r g is got = got ∙ ap (λ (x : Result Gate StoreRefusal). result_unwrap_or x (gate 0 0 0 0)) is ∙ by (cases_lt place (length m.gates))
  where
    told : Bool → Gate
    told b = result_unwrap_or {E = StoreRefusal} (cond b (Ok (at m place)) (Err NoSuchPlace)) (gate 0 0 0 0)

    by : (place < length m.gates) ⊎ (length m.gates ≤ place) → told (ltb place (length m.gates)) ≡ get_or m.gates place (gate 0 0 0 0)
    by (inl lt) = ap told (lt-ltb place (length m.gates) lt)
    by (inr ge) = ap told (le-ltb place (length m.gates) ge) ∙ sym (get_or_past m.gates place (gate 0 0 0 0) ge)

-- the gates from a place on, so many of them
loaded : (gates : List Gate) (n first : ℕ) → first + n ≤ length gates → map (λ (q : ℕ). get_or gates q (gate 0 0 0 0)) (range_with_len first n) ≡ take n (drop first gates)
loaded gates zero first few = refl
loaded gates (suc n) first few =
    ap (λ (r : List Gate). get_or gates first (gate 0 0 0 0) ∷ r) (loaded gates n (first + 1) (omega arith))
    ∙ sym (ap (take (suc n)) (drop_more gates first (gate 0 0 0 0) (omega arith)))

module _ (gates held : List Gate) (first place : ℕ) (from : first ≤ place) (front : held ≡ take (place - first) (drop first gates)) where
  -- as many as there are, or as can be reached
  pub loaded_all : (reached most : ℕ) → reached ≡ min (length gates) (min (first + 32) most) → length gates ≤ most → (first ≤ reached → place ≤ reached) → reached ≤ place → held ≡ frame_at gates first
  loaded_all reached most end few to past = front ∙ by (cases_lt (length (drop first gates)) 32)
    where
      by : (length (drop first gates) < 32) ⊎ (32 ≤ length (drop first gates)) → take (place - first) (drop first gates) ≡ take 32 (drop first gates)
      by (inl short) = take_all (place - first) (drop first gates) (omega (arith, length-drop first gates)) ∙ sym (take_all 32 (drop first gates) (omega arith))
      by (inr many) = ap (λ (n : ℕ). take n (drop first gates)) (let inside : first ≤ reached = omega (arith, length-drop first gates) in let at-most = to inside in let e : place - first ≡ 32 = omega (arith, length-drop first gates) in e)

-- the gates that were read up to the end, or as far as can be reached, are the frame
pub frame_loaded : (gates held : List Gate) (first reached most : ℕ) → reached ≡ min (length gates) (min (first + 32) most) → length gates ≤ most
    → held ≡ take 32 (map (λ (q : ℕ). get_or gates q (gate 0 0 0 0)) (range_with_len first (reached - first))) → held ≡ frame_at gates first
frame_loaded gates held first reached most end few is =
    loaded_all gates held first (max first reached) (omega arith) (is ∙ ap (take 32) (by (cases_lt first reached)) ∙ take_all 32 (take (max first reached - first) (drop first gates)) (omega (arith, end, length-take (max first reached - first) (drop first gates))))
    reached most end few (λ l. omega arith) (omega arith)
  where
    by : (first < reached) ⊎ (reached ≤ first) → map (λ (q : ℕ). get_or gates q (gate 0 0 0 0)) (range_with_len first (reached - first)) ≡ take (max first reached - first) (drop first gates)
    by (inl lt) = loaded gates (reached - first) first (omega (arith, end)) ∙ ap (λ (n : ℕ). take n (drop first gates)) (omega arith)
    by (inr ge) =
        ap (λ (n : ℕ). map (λ (q : ℕ). get_or gates q (gate 0 0 0 0)) (range_with_len first n)) (let e : reached - first ≡ 0 = omega arith in e)
        ∙ ap (λ (n : ℕ). take n (drop first gates)) (let e : 0 ≡ max first reached - first = omega arith in e)

-- rising numbers
rising_from : (r : ℕ) (xs : List ℕ) → Rising r xs → (j : ℕ) → j < length xs → r + j ≤ get_or xs j 0
rising_from r [] h j lt = absurd (let z : ⊥ = omega arith in z)
rising_from r (x ∷ xs) h zero lt = omega (arith, h.0)
rising_from r (x ∷ xs) h (suc j) lt = omega (arith, h.0, rising_from (suc x) xs h.1 j (omega arith))

rising_less : (r : ℕ) (xs : List ℕ) → Rising r xs → (i j : ℕ) → i < j → j < length xs → get_or xs i 0 < get_or xs j 0
rising_less r [] h i j l lt = absurd (let z : ⊥ = omega arith in z)
rising_less r (x ∷ xs) h i zero l lt = absurd (let z : ⊥ = omega arith in z)
rising_less r (x ∷ xs) h zero (suc j) l lt = omega (arith, rising_from (suc x) xs h.1 j (omega arith))
rising_less r (x ∷ xs) h (suc i) (suc j) l lt = rising_less (suc x) xs h.1 i j (omega arith) (omega arith)

-- the distance of the j-th place of an occurrence from its first
abbrev pub distance : Occurrence → ℕ → ℕ
distance o j = get_or (places o) j 0 - o.first

module _ (k : KindMeaning) (n : ℕ) (gates : List Gate) (shelf : List EntryMeaning) (o : Occurrence) (is : OccursAs k n gates shelf o) where
  pub place_from : (j : ℕ) → j < length (places o) → o.first ≤ get_or (places o) j 0
  place_from j l = let up : Rising o.first (places o) = (omega arith, is.rising) in omega (arith, rising_from o.first (places o) up j l)

  pub place_inside : (j : ℕ) → j < length (places o) → get_or (places o) j 0 < length gates
  place_inside j l = All-get_or (λ q. q < length gates) (places o) j 0 l is.inside

  pub distance_near : (j : ℕ) → j < length (places o) → distance o j < 32
  distance_near zero l = omega arith
  distance_near (suc j) l = omega (arith, All-get_or (λ q. q ≤ o.first + 31) o.later j 0 (omega arith) is.near)

  pub distance_rises : (i j : ℕ) → i < j → j < length (places o) → distance o i < distance o j
  distance_rises i j lt l =
      let up : Rising o.first (places o) = (omega arith, is.rising) in
      omega (arith, rising_less o.first (places o) up i j lt l, place_from i (omega arith), place_from j l)

  pub distance_inside : (j : ℕ) → j < length (places o) → distance o j < length (frame_at gates o.first)
  distance_inside j l =
      omega (arith, length-take 32 (drop o.first gates), length-drop o.first gates, distance_near j l, place_inside j l, place_from j l)

  -- the frame holds the gates of the places
  pub place_gate : (j : ℕ) → j < length (places o) → at_distance (frame_at gates o.first) (distance o j) ≡ get_or gates (get_or (places o) j 0) (gate 0 0 0 0)
  place_gate j l =
      get_or-take 32 (drop o.first gates) (distance o j) (gate 0 0 0 0) (distance_near j l)
      ∙ get_or-drop o.first gates (distance o j) (gate 0 0 0 0)
      ∙ ap (λ (q : ℕ). get_or gates q (gate 0 0 0 0)) (let e : o.first + distance o j ≡ get_or (places o) j 0 = omega (arith, place_from j l) in e)
