-- Rearrangements: what the test tells, and the table that leads back.
use Rattle.std.proofs.Common.{◌≡◌, ℕ, zero, suc, ◌+◌, ◌<◌, ◌≤◌, Bool, true, false, cond, not, ◌&&◌, ◌||◌, eqb, ltb, leb, ◌⊎◌, List, [], ◌∷◌, ◌++◌, map, length, get_or, take, drop, set, sym, refl, ap, ◌∙◌, subst, ap₂, inl, inr, arith}
use Rattle.std.specs.List.{AllByRecursion, insert, list_all, range_with_len, remove}
use Rattle.std.proofs.lemmas.Grind.{get_or-set_at}
use lib.ListN.{length-map}
use Rattle.std.proofs.lemmas.List.{at_drop_more, at_drop_all, ext_get_or, take_all, get_or-map, get_or-set_other, get_or-take, length-set, length-take, map-append, take-map, drop-map, map-set}
use Rattle.std.proofs.ByRecursion.{All-get_or, All-from_get_or}
use Rattle.std.proofs.lemmas.Bool.{cases_eq, cases_lt, eq-eqb, ne_eqb, eqb-true, ltb-true, leb-true, and_parts, and_left, and_right, not-true, both_ways, or_cases}
use Rattle.gates.specs.Lines.{Table, width, bit, every_below, unmoved}
use Rattle.gates.specs.Controls.{with_member}
use Rattle.gates.specs.Members.{every_at, every_same, bit_none}
use Rattle.gates.specs.ControlSets.{member_at, unmoved_at, unmoved_table}
use Rattle.gates.specs.declared.gate.Gate.{Gate}
use Rattle.gates.specs.Kinds.{KindMeaning, KindLaws, Formed}
use Rattle.stores.specs.Mounts.{completes, rearranges, place_of, inverse_of, Rearranged, shown_gate}

-- a test of each number below n, begun at the first
every_first : (n : ℕ) (P : ℕ → Bool) → every_below (suc n) P ≡ (P 0 && every_below n (λ i. P (suc i)))
unfolding every_below
every_first zero P = refl
every_first (suc n) P = ap (λ (b : Bool). P (suc n) && b) (every_first n P) ∙ turned (P (suc n)) (P 0) (every_below n (λ i. P (suc i)))
  where
    turned : (a b c : Bool) → (a && (b && c)) ≡ (b && (a && c))
    turned true true c = refl
    turned true false c = refl
    turned false true c = refl
    turned false false c = refl

listed_from : (P : ℕ → Bool) (a n : ℕ) → list_all P (range_with_len a n) ≡ every_below n (λ i. P (a + i))
unfolding every_below
listed_from P a zero = refl
listed_from P a (suc n) =
    ap₂ ◌&&◌ (ap P (let e : a ≡ a + 0 = omega arith in e))
    (listed_from P (a + 1) n ∙ every_same n (λ i. P (a + 1 + i)) (λ i. P (a + suc i)) (λ i lt. ap P (omega arith)))
    ∙ sym (every_first n (λ i. P (a + i)))

-- a test of the numbers below n, one after the other
pub all_listed : (n : ℕ) (P : ℕ → Bool) → list_all P (range_with_len 0 n) ≡ every_below n P
all_listed n P = listed_from P 0 n ∙ every_same n (λ i. P (0 + i)) P (λ i lt. ap P (omega arith))

-- a line of the table that is too large, or that came before
pub completes_stops : (n seen : ℕ) (t : List ℕ) (i : ℕ) → i < length t → (ltb (get_or t i 0) n && not (bit seen (get_or t i 0))) ≡ false → completes n seen (drop i t) ≡ false
completes_stops n seen t i lt bad = at_drop_more (completes n seen) t i 0 lt ∙ and_left _ _ bad

-- a line that is new
pub completes_goes_on : (n seen : ℕ) (t : List ℕ) (i : ℕ) → i < length t → (ltb (get_or t i 0) n && not (bit seen (get_or t i 0))) ≡ true
    → completes n seen (drop i t) ≡ completes n (with_member (get_or t i 0) seen) (drop (i + 1) t)
completes_goes_on n seen t i lt good =
    at_drop_more (completes n seen) t i 0 lt ∙ ap (λ (b : Bool). b && completes n (with_member (get_or t i 0) seen) (drop (i + 1) t)) good

pub completes_ends : (n seen : ℕ) (t : List ℕ) (i : ℕ) → length t ≤ i → completes n seen (drop i t) ≡ every_below n (bit seen)
completes_ends n seen t i le = at_drop_all (completes n seen) t i le

pub no_rearrangement : (n : ℕ) (t : List ℕ) → completes n 0 t ≡ false → rearranges n t ≡ false
no_rearrangement n t bad = and_right (leb n width) _ (and_right (eqb (length t) n) _ bad)

-- what completing tells: the lines of the table are below n, none of them was seen, none stands twice, and every line was seen or stands in it
below_all : (n seen : ℕ) (t : List ℕ) → completes n seen t ≡ true → AllByRecursion (λ x. x < n) t
below_all n seen [] h = tt
below_all n seen (x ∷ t) h =
    let both = and_parts _ _ h in
    (ltb-true x n (and_parts _ _ both.0).0, below_all n (with_member x seen) t both.1)

unseen : (n seen : ℕ) (t : List ℕ) → n ≤ width → completes n seen t ≡ true → (j : ℕ) → j < n → bit seen j ≡ true → (i : ℕ) → i < length t → get_or t i 0 ≡ j → ⊥
unseen n seen [] few h j jl was i lt e = omega arith
unseen n seen (x ∷ t) few h j jl was zero lt e =
    let first = and_parts _ _ (and_parts _ _ h).0 in
    both_ways (bit seen x) (not-true _ first.1) (ap (bit seen) e ∙ was)
unseen n seen (x ∷ t) few h j jl was (suc i) lt e =
    unseen n (with_member x seen) t few (and_parts _ _ h).1 j jl (member_at x seen j (omega arith) ∙ or_seen (eqb j x) (bit seen j) was) i (omega arith) e
  where
    or_seen : (a b : Bool) → b ≡ true → (a || b) ≡ true
    or_seen true b e = refl
    or_seen false b e = e

-- the place of a line that stands in the table, or was seen
stands : (n seen : ℕ) (t : List ℕ) → n ≤ width → completes n seen t ≡ true → (j : ℕ) → j < n → (bit seen j ≡ true) ⊎ ((place_of t j < length t) × (get_or t (place_of t j) 0 ≡ j))
stands n seen [] few h j jl = inl (every_at n (bit seen) h j jl)
stands n seen (x ∷ t) few h j jl = by (cases_eq x j) (stands n (with_member x seen) t few (and_parts _ _ h).1 j jl)
  where
    here : x ≡ j → (place_of (x ∷ t) j < suc (length t)) × (get_or (x ∷ t) (place_of (x ∷ t) j) 0 ≡ j)
    here e = let z : place_of (x ∷ t) j ≡ 0 = ap (λ (b : Bool). cond b 0 (suc (place_of t j))) (eq-eqb x j e) in
        (omega arith, ap (λ (i : ℕ). get_or (x ∷ t) i 0) z ∙ e)

    later : (x ≡ j → ⊥) → (place_of t j < length t) × (get_or t (place_of t j) 0 ≡ j) → (place_of (x ∷ t) j < suc (length t)) × (get_or (x ∷ t) (place_of (x ∷ t) j) 0 ≡ j)
    later ne found = let z : place_of (x ∷ t) j ≡ suc (place_of t j) = ap (λ (b : Bool). cond b 0 (suc (place_of t j))) (ne_eqb x j ne) in
        (omega (arith, z, found.0), ap (λ (i : ℕ). get_or (x ∷ t) i 0) z ∙ found.1)

    by : (x ≡ j) ⊎ (x ≡ j → ⊥) → (bit (with_member x seen) j ≡ true) ⊎ ((place_of t j < length t) × (get_or t (place_of t j) 0 ≡ j))
        → (bit seen j ≡ true) ⊎ ((place_of (x ∷ t) j < suc (length t)) × (get_or (x ∷ t) (place_of (x ∷ t) j) 0 ≡ j))
    by (inl e) r = inr (here e)
    by (inr ne) (inl was) = seen_before (or_cases (eqb j x) (bit seen j) (sym (member_at x seen j (omega arith)) ∙ was))
      where
        seen_before : (eqb j x ≡ true) ⊎ (bit seen j ≡ true) → (bit seen j ≡ true) ⊎ ((place_of (x ∷ t) j < suc (length t)) × (get_or (x ∷ t) (place_of (x ∷ t) j) 0 ≡ j))
        seen_before (inl q) = absurd (ne (sym (eqb-true j x q)))
        seen_before (inr q) = inl q
    by (inr ne) (inr found) = inr (later ne found)

-- the first line of the table does not stand in it again
first_again : (n seen x : ℕ) (t : List ℕ) → n ≤ width → completes n seen (x ∷ t) ≡ true → (i : ℕ) → i < length t → get_or t i 0 ≡ x → ⊥
first_again n seen x t few h i lt e =
    let new = ltb x n && not (bit seen x) in
    let rest = completes n (with_member x seen) t in
    let xl : x < n = ltb-true x n (and_parts (ltb x n) (not (bit seen x)) (and_parts new rest h).0).0 in
    unseen n (with_member x seen) t few (and_parts new rest h).1 x xl (member_at x seen x (omega arith) ∙ ap (λ (b : Bool). b || bit seen x) (eq-eqb x x refl)) i lt e

-- no line stands twice
once : (n seen : ℕ) (t : List ℕ) → n ≤ width → completes n seen t ≡ true → (i j : ℕ) → i < length t → j < length t → get_or t i 0 ≡ get_or t j 0 → i ≡ j
once n seen [] few h i j li lj e = absurd (let z : ⊥ = omega arith in z)
once n seen (x ∷ t) few h zero zero li lj e = refl
once n seen (x ∷ t) few h (suc i) (suc j) li lj e = ap suc (once n (with_member x seen) t few (and_parts _ _ h).1 i j (omega arith) (omega arith) e)
once n seen (x ∷ t) few h zero (suc j) li lj e = absurd (first_again n seen x t few h j (omega arith) (sym e))
once n seen (x ∷ t) few h (suc i) zero li lj e = absurd (first_again n seen x t few h i (omega arith) e)

module _ (n : ℕ) (t : List ℕ) (h : rearranges n t ≡ true) where
  few : n ≤ width
  few = leb-true n width (and_parts _ _ h).0

  long : length t ≡ n
  long = eqb-true (length t) n (and_parts _ _ (and_parts _ _ h).1).0

  filled : completes n 0 t ≡ true
  filled = (and_parts (eqb (length t) n) (completes n 0 t) (and_parts (leb n width) (eqb (length t) n && completes n 0 t) h).1).1

  found : (j : ℕ) → j < n → (place_of t j < n) × (get_or t (place_of t j) 0 ≡ j)
  found j jl = by (stands n 0 t few filled j jl)
    where
      by : (bit 0 j ≡ true) ⊎ ((place_of t j < length t) × (get_or t (place_of t j) 0 ≡ j)) → (place_of t j < n) × (get_or t (place_of t j) 0 ≡ j)
      by (inl e) = absurd (both_ways (bit 0 j) (bit_none j) e)
      by (inr f) = (omega (arith, f.0, long), f.1)

  back_at : (j : ℕ) → j < n → get_or (inverse_of n t) j 0 ≡ place_of t j
  back_at j jl =
      let counts : j < length (unmoved n) = omega (arith, (unmoved_table n few).long) in
      get_or-map (place_of t) (unmoved n) j 0 0 counts ∙ ap (place_of t) (unmoved_at n j jl)

  back_long : length (inverse_of n t) ≡ n
  back_long = length-map (unmoved n) (place_of t) ∙ (unmoved_table n few).long

  pub rearranged : Rearranged n t (inverse_of n t)
  rearranged = record {
    there = record { few = few; long = long; below = below_all n 0 t filled; different = λ i j il jl e. once n 0 t few filled i j (omega (arith, long)) (omega (arith, long)) e };
    back_again = record {
      few = few;
      long = back_long;
      below = All-from_get_or (λ x. x < n) (inverse_of n t) 0 (λ i lt. let il : i < n = omega (arith, back_long) in omega (arith, back_at i il, (found i il).0));
      different = λ i j il jl e. sym (found i il).1 ∙ ap (λ (x : ℕ). get_or t x 0) (sym (back_at i il) ∙ e ∙ back_at j jl) ∙ (found j jl).1;
    };
    undone = λ i il.
        let tl : get_or t i 0 < n = All-get_or (λ x. x < n) t i 0 (omega (arith, long)) (below_all n 0 t filled) in
        let place = found (get_or t i 0) tl in
        back_at (get_or t i 0) tl ∙ once n 0 t few filled (place_of t (get_or t i 0)) i (omega (arith, place.0, long)) (omega (arith, long)) place.1;
    redone = λ i il. ap (λ (x : ℕ). get_or t x 0) (back_at i il) ∙ (found i il).1;
  }

-- no lines, rearranged
pub none_rearranged : rearranges 0 [] ≡ true
unfolding every_below
none_rearranged = refl

-- a rearrangement has as many entries as there are lines, and there are few
pub sized : (n : ℕ) (t : List ℕ) → true ≡ rearranges n t → (length t ≡ n) × (n ≤ width)
sized n t h = (long n t (sym h), few n t (sym h))

-- so it is taken whole where there is room for the lines
pub taken : (n : ℕ) (t : List ℕ) → true ≡ rearranges n t → take width t ≡ t
taken n t h = take_all width t (let size = sized n t h in omega (arith, size.0, size.1))

-- the places of the lines that stand in the table before place i, found one after the other
pub record Placed (n : ℕ) (t : List ℕ) (i : ℕ) (places : List ℕ) : Type 0 where
  pub long : length places ≡ width
  pub known : (j : ℕ) → j < n → get_or (inverse_of n t) j 0 < i → get_or places j 0 ≡ get_or (inverse_of n t) j 0

module _ (n : ℕ) (t : List ℕ) (is : true ≡ rearranges n t) where
  r : Rearranged n t (inverse_of n t)
  r = rearranged n t (sym is)

  pub placed_none : (places : List ℕ) → length places ≡ width → Placed n t 0 places
  placed_none places long = record { long = long; known = λ j jl none. absurd (let z : ⊥ = omega (arith, none) in z) }

  pub line_below : (i : ℕ) → i < length t → get_or t i 0 < n
  line_below i lt = All-get_or (λ x. x < n) t i 0 lt r.there.below

  -- a line stands at one place only, and at that place no other
  pub placed_more : (i : ℕ) (places : List ℕ) → i < length t → Placed n t i places → Placed n t (i + 1) (set places (get_or t i 0) i)
  placed_more i places lt so = record { long = length-set places x i ∙ so.long; known = λ j jl le. by j jl le (cases_eq j x) }
    where
      x : ℕ
      x = get_or t i 0

      il : i < n
      il = omega (arith, lt, r.there.long)

      xl : x < n
      xl = line_below i lt

      below_next : (a b : ℕ) → a < b + 1 → (a ≡ b → ⊥) → a < b
      below_next a b le ne = elim (cases_lt a b) [ inl l ↦ l | inr g ↦ absurd (ne (omega (arith, le, g))) ]

      by : (j : ℕ) → j < n → get_or (inverse_of n t) j 0 < i + 1 → (j ≡ x) ⊎ (j ≡ x → ⊥) → get_or (set places x i) j 0 ≡ get_or (inverse_of n t) j 0
      by j jl le (inl e) =
          get_or-set_at places x j i 0 e (omega (arith, xl, r.there.few, so.long))
          ∙ sym (r.undone i il) ∙ ap (λ (u : ℕ). get_or (inverse_of n t) u 0) (sym e)
      by j jl le (inr ne) =
          let other : get_or (inverse_of n t) j 0 ≡ i → ⊥ = λ here. ne (sym (r.redone j jl) ∙ ap (λ (u : ℕ). get_or t u 0) here) in
          get_or-set_other places x j i 0 ne ∙ so.known j jl (below_next _ _ le other)

  pub back_taken : take width (inverse_of n t) ≡ inverse_of n t
  back_taken = take_all width (inverse_of n t) (omega (arith, r.back_again.long, r.there.few))

  pub placed_all : (i : ℕ) (places : List ℕ) → length t ≤ i → Placed n t i places → take n places ≡ inverse_of n t
  placed_all i places le so =
      let long : length (take n places) ≡ n = omega (arith, length-take n places, so.long, r.there.few) in
      ext_get_or 0 (take n places) (inverse_of n t) (long ∙ sym r.back_again.long)
      (λ j lt.
      let jl : j < n = omega (arith, lt, long) in
      let early : get_or (inverse_of n t) j 0 < i = omega (arith, le, r.there.long, All-get_or (λ x. x < n) (inverse_of n t) j 0 (omega (arith, jl, r.back_again.long)) r.back_again.below) in
      get_or-take n places j 0 jl ∙ so.known j jl early)

-- a gate that is written through the old lines is shown as it was, and is well formed
pub written_back : {k : KindMeaning} → KindLaws k → (new old : List ℕ) → rearranges (length new) new ≡ true → old ≡ inverse_of (length new) new
    → (lines : ℕ) (y : Gate) → Formed k lines y → Formed k lines (shown_gate k old lines y) × (shown_gate k new lines (shown_gate k old lines y) ≡ y)
written_back {k} laws new old sound inverse lines y formed = rw (ap length inverse ∙ back_long n new sound) (by (eqb n lines) refl)
  where
    n : ℕ
    n = length new

    by : (b : Bool) → eqb n lines ≡ b
        → Formed k lines (cond b (k.renamed old y) y) × (cond b (k.renamed new (cond b (k.renamed old y) y)) (cond b (k.renamed old y) y) ≡ y)
    by false e = (formed, refl)
    by true e =
        let same : lines ≡ n = sym (eqb-true n lines e) in
        let r = rearranged n new sound in
        let there : Formed k n y = subst (λ (l : ℕ). Formed k l y) same formed in
        let back : Table n n old = subst (Table n n) (sym inverse) r.back_again in (
          subst (λ (l : ℕ). Formed k l (k.renamed old y)) (sym same) (laws.renamed_formed n n old y back there),
          laws.renamed_back n old new y back r.there (λ i lt. ap (λ (u : List ℕ). get_or new (get_or u i 0) 0) inverse ∙ r.redone i lt) there,
        )

-- edits of a list, each element of which is shown by f
module _ {X : Type 0} (f : X → X) (xs : List X) where
  pub inserted_map : (p : ℕ) (y z : X) → f z ≡ y → map f (insert xs p z) ≡ insert (map f xs) p y
  inserted_map p y z e =
      map-append f (take p xs) (z ∷ drop p xs) ∙ ap (λ (x : X). map f (take p xs) ++ x ∷ map f (drop p xs)) e
      ∙ ap₂ (λ (u v : List X). u ++ y ∷ v) (sym (take-map f p xs)) (sym (drop-map f p xs))

  pub removed_map : (p : ℕ) → map f (remove xs p) ≡ remove (map f xs) p
  removed_map p = map-append f (take p xs) (drop (suc p) xs) ∙ ap₂ ◌++◌ (sym (take-map f p xs)) (sym (drop-map f (suc p) xs))

  pub set_map : (p : ℕ) (y z : X) → f z ≡ y → map f (set xs p z) ≡ set (map f xs) p y
  set_map p y z e = map-set f xs p z ∙ ap (set (map f xs) p) e
