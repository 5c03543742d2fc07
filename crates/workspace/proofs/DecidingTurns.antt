-- The test of a turn decides.
use Rattle.std.proofs.Common.{◌≡◌, ℕ, zero, suc, ◌^◌, ◌<◌, Bool, true, false, not, eqb, ltb, leb, List, [], ◌∷◌, length, get_or, is_some, Decides, sym, refl, ap, ◌∙◌, arith}
use Rattle.std.specs.List.{AllByRecursion}
use Rattle.std.proofs.lemmas.List.{get_or_default}
use Rattle.std.proofs.lemmas.Bool.{leb-true, le-leb, and_parts, and_from, not-true, not_from_false}
use Rattle.std.proofs.lemmas.Bool.Decides.{Decides-and, Decides-by_or, Decides-ltb, Decides-eqb, Decides-like, not_from_Decides}
use Rattle.std.proofs.ByRecursion.{Decides-by_and}
use Rattle.gates.specs.Lines.{width, Table}
use Rattle.gates.specs.Kinds.{KindMeaning}
use Rattle.gates.specs.Cascades.{Flippable}
use Rattle.workspace.specs.Templates.{size}
use Rattle.workspace.specs.TemplateTests.{all_pass}
use Rattle.workspace.specs.Turns.{Placed, directed, placed}
use Rattle.workspace.specs.TurnTests.{has_number_lem, distinct, table_test, turn_test, TurnsDecided}
use Rattle.workspace.proofs.Deciding.{decides_true}

-- a place of the list has the number
abbrev AtSome : List ℕ → ℕ → Type 0
AtSome xs n = (i : ℕ) × (i < length xs) × (get_or xs i 0 ≡ n)

pub decides_has : (xs : List ℕ) (n : ℕ) → Decides (has_number_lem xs n) (AtSome xs n)
decides_has xs n =
    Decides-like (has_number_lem xs n) (λ (i, lt, at). (i, lt, at 0)) (λ (i, lt, at). (i, lt, λ d. get_or_default xs i d 0 lt ∙ at))
    (Decides-by_or (λ y. eqb y n) (λ y. y ≡ n) (λ ys. has_number_lem ys n) (λ y. Decides-eqb y n) refl (λ _ _. refl) xs)

-- different places have different numbers
abbrev Different : List ℕ → Type 0
Different xs = (i j : ℕ) → i < length xs → j < length xs → get_or xs i 0 ≡ get_or xs j 0 → i ≡ j

different_of : (xs : List ℕ) → distinct xs ≡ true → Different xs
different_of [] h = λ i j li lj e. absurd (let z : ⊥ = omega arith in z)
different_of (x ∷ xs) h =
    let both = and_parts (not (has_number_lem xs x)) (distinct xs) h in
    let absent : AtSome xs x → ⊥ = not_from_Decides (has_number_lem xs x) (decides_has xs x) (not-true (has_number_lem xs x) both.0) in at absent (different_of xs both.1)
  where
    at : (AtSome xs x → ⊥) → Different xs → Different (x ∷ xs)
    at absent rest zero zero li lj e = refl
    at absent rest zero (suc j) li lj e = absurd (absent (j, (let lt : j < length xs = omega arith in lt), sym e))
    at absent rest (suc i) zero li lj e = absurd (absent (i, (let lt : i < length xs = omega arith in lt), e))
    at absent rest (suc i) (suc j) li lj e = ap suc (rest i j (omega arith) (omega arith) e)

of_different : (xs : List ℕ) → Different xs → distinct xs ≡ true
of_different [] h = refl
of_different (x ∷ xs) h =
    and_from (not (has_number_lem xs x)) (distinct xs) (not_from_false (has_number_lem xs x) (at (has_number_lem xs x) refl)) (of_different xs (λ i j li lj e. let next : suc i ≡ suc j = h (suc i) (suc j) (omega arith) (omega arith) e in omega arith))
  where
    at : (b : Bool) → has_number_lem xs x ≡ b → has_number_lem xs x ≡ false
    at false e = e
    at true e =
        let (i, lt, is) = (decides_has xs x).0 e in
        absurd (let z : 0 ≡ suc i = h 0 (suc i) (omega arith) (omega arith) (sym is) in omega arith)

pub decides_table : (l n : ℕ) (table : List ℕ) → Decides (table_test l n table) (Table l n table)
decides_table l n table = (
  (λ h.
      let (few, more) = and_parts (leb n width) _ h in
      let (long, most) = and_parts (eqb (length table) l) _ more in
      let (below, last) = and_parts (all_pass (λ x. ltb x n) table) _ most in
      let same : length table ≡ l = (Decides-eqb (length table) l).0 long in
      record {
        few = leb-true n width few;
        long = same;
        below = all_below.0 below;
        different = λ i j li lj. different_of table last i j (omega arith) (omega arith);
      }),
  (λ is.
      and_from (leb n width) _ (le-leb n width is.few)
      (and_from (eqb (length table) l) _ ((Decides-eqb (length table) l).1 is.long)
      (and_from (all_pass (λ x. ltb x n) table) _ (all_below.1 is.below)
      (of_different table (λ i j li lj. is.different i j (omega (arith, is.long)) (omega (arith, is.long))))))),
)
  where
    all_below : Decides (all_pass (λ x. ltb x n) table) (AllByRecursion (λ x. x < n) table)
    all_below = Decides-by_and (λ x. ltb x n) (λ x. x < n) (all_pass (λ x. ltb x n)) (λ x. Decides-ltb x n) refl (λ _ _. refl) table

pub decides_turn : (k : KindMeaning) → TurnsDecided k
decides_turn k n e t =
    Decides-like (turn_test k n e t)
    (λ (rotates, (flips, (flippable, maps))). record { rotates = rotates; flips = flips; flippable = flippable; maps = maps })
    (λ is. (is.rotates, (is.flips, (is.flippable, is.maps))))
    (Decides-and (ltb t.rotation (size e)) _ (Decides-ltb t.rotation (size e))
    (Decides-and (ltb t.flips (2 ^ e.lines)) _ (Decides-ltb t.flips (2 ^ e.lines))
    (Decides-and (all_pass has_flipped_lem gates) _
    (Decides-by_and has_flipped_lem (λ x. Flippable k t.flips x.gate) (all_pass has_flipped_lem) (λ x. decides_true (has_flipped_lem x)) refl (λ _ _. refl) gates)
    (decides_table e.lines n t.table))))
  where
    gates : List Placed
    gates = directed k t.back (placed e.gates)

    has_flipped_lem : Placed → Bool
    has_flipped_lem x = is_some (k.flipped t.flips x.gate)
