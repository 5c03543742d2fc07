-- The gate at each place of a posed template.
use Rattle.std.proofs.Common.{◌≡◌, ℕ, zero, suc, ◌+◌, ◌-◌, ◌<◌, ◌≤◌, Bool, true, false, cond, ◌⊎◌, List, [], ◌∷◌, map, reverse, length, get_or, take, drop, sym, refl, ap, ◌∙◌, inl, inr, arith}
use Rattle.std.proofs.lemmas.List.{length-map, length-reverse, length-append, length-take, length-drop, get_or-map, get_or-reverse, get_or_append_left, get_or-append_right, get_or-drop, get_or-take}
use Rattle.std.proofs.lemmas.Bool.{cases_lt, lt-ltb, le-ltb}
use Rattle.gates.specs.declared.gate.Gate.{Gate}
use Rattle.gates.specs.Controls.{gate}
use Rattle.gates.specs.Kinds.{KindMeaning}
use Rattle.gates.specs.Cascades.{rotated, flipped_or}
use Rattle.workspace.specs.Turns.{Placed, at_position, on_gate, placed_from, placed, directed}
use Rattle.workspace.specs.Posing.{directed_gate, rotated_place, source_place}

-- what a read past the end gives
abbrev pub no_gate : Gate
no_gate = gate 0 0 0 0

pub placed_long : (p : ℕ) (gates : List Gate) → length (placed_from p gates) ≡ length gates
placed_long p [] = refl
placed_long p (g ∷ gates) = ap suc (placed_long (suc p) gates)

placed_at : (p i : ℕ) (gates : List Gate) (d : Placed) → i < length gates → get_or (placed_from p gates) i d ≡ at_position (p + i) (get_or gates i no_gate)
placed_at p i [] d lt = absurd (let z : ⊥ = omega arith in z)
placed_at p zero (g ∷ gates) d lt = ap (λ (q : ℕ). at_position q g) (let e : p ≡ p + 0 = omega arith in e)
placed_at p (suc i) (g ∷ gates) d lt = placed_at (suc p) i gates d (omega arith) ∙ ap (λ (q : ℕ). at_position q (get_or gates i no_gate)) (let e : suc p + i ≡ p + suc i = omega arith in e)

directed_long : (k : KindMeaning) (back : Bool) (xs : List Placed) → length (directed k back xs) ≡ length xs
directed_long k true xs = length-map (reverse xs) (on_gate k.inverse) ∙ length-reverse xs
directed_long k false xs = refl

-- where the gate at a place of the directed list comes from
turned_round : Bool → ℕ → ℕ → ℕ
turned_round back m i = cond back (m - 1 - i) i

module _ (k : KindMeaning) (gates : List Gate) where
  directed_at : (back : Bool) (i : ℕ) (d : Placed) → i < length gates
      → get_or (directed k back (placed gates)) i d ≡ at_position (turned_round back (length gates) i) (directed_gate k back (get_or gates (turned_round back (length gates) i) no_gate))
  unfolding turned_round
  directed_at false i d lt = placed_at 0 i gates d lt ∙ ap (λ (q : ℕ). at_position q (get_or gates i no_gate)) (let e : 0 + i ≡ i = omega arith in e)
  directed_at true i d lt =
      let m = length gates in
      let long : length (placed gates) ≡ m = placed_long 0 gates in
      let q = m - 1 - i in
      get_or-map (on_gate k.inverse) (reverse (placed gates)) i d d (omega (arith, length-reverse (placed gates)))
      ∙ ap (on_gate k.inverse)
      (get_or-reverse (placed gates) i d (omega arith)
      ∙ ap (λ (n : ℕ). get_or (placed gates) (n - 1 - i) d) long
      ∙ placed_at 0 q gates d (omega arith)
      ∙ ap (λ (n : ℕ). at_position n (get_or gates q no_gate)) (let e : 0 + q ≡ q = omega arith in e))

-- a rotation by more than the length is none
rotated_at : {X : Type 0} (r : ℕ) (xs : List X) (j m : ℕ) (d : X) → length xs ≡ m → j < m → get_or (rotated r xs) j d ≡ get_or xs (rotated_place m r j) d
rotated_at r xs j m d long lt = at (cases_lt j (m - r))
  where
    at : (j < m - r) ⊎ (m - r ≤ j) → get_or (rotated r xs) j d ≡ get_or xs (rotated_place m r j) d
    at (inl before) =
        get_or_append_left (drop r xs) (take r xs) d j (omega (arith, length-drop r xs))
        ∙ get_or-drop r xs j d
        ∙ ap (λ (b : Bool). get_or xs (cond b (r + j) (j - (m - r))) d) (sym (lt-ltb j (m - r) before))
    at (inr behind) =
        get_or-append_right (drop r xs) (take r xs) (m - r) j d (length-drop r xs ∙ omega arith) behind
        ∙ get_or-take r xs (j - (m - r)) d (omega arith)
        ∙ ap (λ (b : Bool). get_or xs (cond b (r + j) (j - (m - r))) d) (sym (le-ltb j (m - r) behind))

rotated_in : (m r j : ℕ) → j < m → rotated_place m r j < m
rotated_in m r j lt = at (cases_lt j (m - r))
  where
    at : (j < m - r) ⊎ (m - r ≤ j) → rotated_place m r j < m
    at (inl before) = rw (lt-ltb j (m - r) before) (omega arith)
    at (inr behind) = rw (le-ltb j (m - r) behind) (omega arith)

-- the gates posed
abbrev pub posed_gates : KindMeaning → List Gate → Bool → ℕ → ℕ → List Placed
posed_gates k gates back r f = map (on_gate (flipped_or k f)) (rotated r (directed k back (placed gates)))

module _ (k : KindMeaning) (gates : List Gate) (back : Bool) (r f : ℕ) where
  pub posed_long : length (posed_gates k gates back r f) ≡ length gates
  posed_long =
      let xs = directed k back (placed gates) in
      length-map (rotated r xs) (on_gate (flipped_or k f))
      ∙ length-append (drop r xs) (take r xs)
      ∙ omega (arith, length-drop r xs, length-take r xs, directed_long k back (placed gates), placed_long 0 gates)

  pub posed_at : (j : ℕ) (d : Placed) → j < length gates
      → get_or (posed_gates k gates back r f) j d
      ≡ at_position (source_place (length gates) back r j) (flipped_or k f (directed_gate k back (get_or gates (source_place (length gates) back r j) no_gate)))
  unfolding turned_round
  posed_at j d lt =
      let m = length gates in
      let xs = directed k back (placed gates) in
      let long : length xs ≡ m = directed_long k back (placed gates) ∙ placed_long 0 gates in
      get_or-map (on_gate (flipped_or k f)) (rotated r xs) j d d (omega (arith, length-append (drop r xs) (take r xs), length-drop r xs, length-take r xs))
      ∙ ap (on_gate (flipped_or k f)) (rotated_at r xs j m d long lt ∙ directed_at k gates back (rotated_place m r j) d (rotated_in m r j lt))
