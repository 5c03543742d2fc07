-- Replacing an occurrence keeps what the cascade does.
use Rattle.std.proofs.Common.{◌≡◌, ℕ, zero, suc, ◌+◌, ◌-◌, ◌<◌, ◌≤◌, Bool, true, false, cond, ◌&&◌, ◌||◌, eqb, ◌⊎◌, List, [], ◌∷◌, ◌++◌, map, length, get_or, drop, Some, None, Option, sym, refl, ap, ◌∙◌, subst, ap₂, inl, inr, arith}
use Rattle.std.specs.List.{AllByRecursion}
use mathlib.Core.Path.{fun_ext}
use Rattle.std.proofs.lemmas.List.{get_or-drop, length-drop}
use Rattle.std.proofs.ByRecursion.{All-weaker}
use Rattle.std.proofs.lemmas.Bool.{false≢true, cases_eq, eq-eqb, ne_eqb, or_from, or_parts, and_parts, eqb-false}
use Rattle.gates.specs.declared.gate.Gate.{Gate}
use Rattle.gates.specs.declared.gate.Sign.{Sign}
use Rattle.gates.specs.Lines.{Outside}
use Rattle.gates.specs.Controls.{gate}
use Rattle.gates.specs.Kinds.{KindMeaning, KindLaws}
use Rattle.gates.specs.Cascades.{picked, Moves}
use Rattle.workspace.specs.Turns.{Placed, placed, turned, Added, Fits}
use Rattle.workspace.specs.TurnTests.{has_number_lem}
use Rattle.workspace.specs.Conditions.{EntryMeaning}
use Rattle.workspace.specs.Occurrences.{Occurrence, places, template_on, at_places, beside, Asked, asks, joined_to, gathered, passes, moves_front, is_chosen, Rising, OccursAs, Replacing}
use Rattle.workspace.specs.Occurrences.Asked.{nothing, control_on, refused}
use Rattle.workspace.proofs.Replacing as replacing

-- the gathered controls fit
out_of : (t : List ℕ) (l : ℕ) → has_number_lem t l ≡ false → Outside t l
out_of [] l h = tt
out_of (x ∷ t) l h = let both = or_parts (eqb x l) (has_number_lem t l) h in (eqb-false x l both.0, out_of t l both.1)

-- they fit, and are on lines below l
Fit : ℕ → List ℕ → ℕ → List Added → Type 0
Fit n t l adds = AllByRecursion (λ (a : Added). a.line < l) adds × Fits n t adds

gathers : (n : ℕ) (t : List ℕ) (ask : ℕ → Asked) → ((l : ℕ) (sign : Sign) (g : ℕ) → ask l ≡ control_on sign g → Outside t l)
    → (l : ℕ) → l ≤ n → (adds : List Added) → gathered ask l ≡ Some adds → Fit n t l adds
unfolding Fit
gathers n t ask out zero le adds e = let same : [] ≡ adds = cc in subst (Fit n t 0) same (tt, tt)
gathers n t ask out (suc l) le adds e = at (ask l) refl (gathered ask l) (λ adds' q. gathers n t ask out l (omega arith) adds' q) e
  where
    wider : (more : List Added) → Fit n t l more → Fit n t (suc l) more
    wider more f = (All-weaker (λ (x : Added). x.line < l) (λ (x : Added). x.line < suc l) (λ x h. omega arith) more f.0, f.1)

    at : (a : Asked) → ask l ≡ a → (r : Option (List Added)) → ((more : List Added) → r ≡ Some more → Fit n t l more) → joined_to l a r ≡ Some adds → Fit n t (suc l) adds
    at nothing q r ih j = wider adds (ih adds j)
    at (control_on sign g) q None ih j = absurd (let z : ◌≡◌ {A = ℕ} 0 1 = cc in omega arith)
    at (control_on sign g) q (Some more) ih j =
        let f = ih more refl in
        let x : Added = record { line = l; sign = sign; group = g } in
        let same : (x ∷ more) ≡ adds = cc in
        subst (Fit n t (suc l)) same
        ((omega arith, (wider more f).0), (le, out l sign g q, All-weaker (λ (y : Added). y.line < l) (λ (y : Added). y.line ≡ l → ⊥) (λ y h e. omega arith) more f.0, f.1))
    at refused q r ih j = absurd (let z : ◌≡◌ {A = ℕ} 0 1 = cc in omega arith)

asks_outside : (table groups : List ℕ) (chosen : List Placed) (l : ℕ) (sign : Sign) (g : ℕ) → asks table groups chosen l ≡ control_on sign g → Outside table l
asks_outside table groups chosen l sign g e = out_of table l (by (has_number_lem table l) refl)
  where
    by : (b : Bool) → has_number_lem table l ≡ b → has_number_lem table l ≡ false
    by false q = q
    by true q =
        let none : asks table groups chosen l ≡ nothing = rw q in
        absurd (let z : ◌≡◌ {A = ℕ} 0 1 = cc in omega arith)

-- the picked gates are those at the places
picked_none : (gates : List Gate) → picked (λ _. false) gates ≡ []
picked_none [] = refl
picked_none (g ∷ gates) = picked_none gates

pub not_yet : (xs : List ℕ) (q r : ℕ) → Rising r xs → q < r → has_number_lem xs q ≡ false
not_yet [] q r h lt = refl
not_yet (x ∷ xs) q r h lt = or_from _ _ (ne_eqb x q (λ e. omega (arith, h.0))) (not_yet xs q (suc x) h.1 (omega (arith, h.0)))

shifted : (y : Gate) (gates : List Gate) (d : Gate) (q r : ℕ) (xs : List ℕ) → Rising r xs → q < r → map (λ x. get_or gates (x - suc q) d) xs ≡ map (λ x. get_or (y ∷ gates) (x - q) d) xs
shifted y gates d q r [] h lt = refl
shifted y gates d q r (x ∷ xs) h lt =
    ap₂ ◌∷◌ (ap (λ (i : ℕ). get_or (y ∷ gates) i d) (let e : suc (x - suc q) ≡ x - q = omega (arith, h.0) in e)) (shifted y gates d q (suc x) xs h.1 (omega (arith, h.0)))

picked_at : (gates : List Gate) (d : Gate) (q : ℕ) (xs : List ℕ) → Rising q xs → AllByRecursion (λ x. x < q + length gates) xs
    → picked (λ i. has_number_lem xs (q + i)) gates ≡ map (λ x. get_or gates (x - q) d) xs
picked_at [] d q [] h all = refl
picked_at [] d q (x ∷ xs) h all = absurd (let z : ⊥ = omega (arith, h.0, all.0) in z)
picked_at (y ∷ gates) d q [] h all = picked_none gates
picked_at (y ∷ gates) d q (x ∷ xs) h all =
    at (cases_eq x q) (λ xs' h' all'. picked_at gates d (suc q) xs' h' all')
  where
    wide : (zs : List ℕ) → AllByRecursion (λ z. z < q + length (y ∷ gates)) zs → AllByRecursion (λ z. z < suc q + length gates) zs
    wide zs a = All-weaker (λ z. z < q + length (y ∷ gates)) (λ z. z < suc q + length gates) (λ z l. omega arith) zs a

    at : (x ≡ q) ⊎ (x ≡ q → ⊥)
        → ((xs' : List ℕ) → Rising (suc q) xs' → AllByRecursion (λ z. z < suc q + length gates) xs' → picked (λ i. has_number_lem xs' (suc q + i)) gates ≡ map (λ z. get_or gates (z - suc q) d) xs')
        → picked (λ i. has_number_lem (x ∷ xs) (q + i)) (y ∷ gates) ≡ map (λ z. get_or (y ∷ gates) (z - q) d) (x ∷ xs)
    at (inl e) ih =
        let first : has_number_lem (x ∷ xs) (q + 0) ≡ true = ap (λ (b : Bool). b || has_number_lem xs (q + 0)) (eq-eqb x (q + 0) (omega arith)) in
        let rest : picked (λ i. has_number_lem (x ∷ xs) (q + suc i)) gates ≡ map (λ z. get_or (y ∷ gates) (z - q) d) xs =
        ap (λ (c : ℕ → Bool). picked c gates) (fun_ext λ i. ap₂ (λ (b : Bool) (j : ℕ). b || has_number_lem xs j) (ne_eqb x (q + suc i) (λ e'. omega arith)) (let w : q + suc i ≡ suc q + i = omega arith in w))
        ∙ ih xs (subst (λ (z : ℕ). Rising (suc z) xs) e h.1) (wide xs all.1)
        ∙ shifted y gates d q (suc x) xs h.1 (omega arith) in
        ap (λ (b : Bool). cond b (y ∷ picked (λ i. has_number_lem (x ∷ xs) (q + suc i)) gates) (picked (λ i. has_number_lem (x ∷ xs) (q + suc i)) gates)) first
        ∙ ap₂ ◌∷◌ (ap (λ (i : ℕ). get_or (y ∷ gates) i d) (let w : 0 ≡ x - q = omega arith in w)) rest
    at (inr ne) ih =
        let up : Rising (suc q) (x ∷ xs) = (omega (arith, h.0), h.1) in
        let first : has_number_lem (x ∷ xs) (q + 0) ≡ false = not_yet (x ∷ xs) (q + 0) (suc q) up (omega arith) in
        ap (λ (b : Bool). cond b (y ∷ picked (λ i. has_number_lem (x ∷ xs) (q + suc i)) gates) (picked (λ i. has_number_lem (x ∷ xs) (q + suc i)) gates)) first
        ∙ ap (λ (c : ℕ → Bool). picked c gates) (fun_ext λ i. ap (has_number_lem (x ∷ xs)) (let w : q + suc i ≡ suc q + i = omega arith in w))
        ∙ ih (x ∷ xs) up (wide (x ∷ xs) all)
        ∙ shifted y gates d q (suc q) (x ∷ xs) up (omega arith)

at_drop : (gates : List Gate) (p : ℕ) (ys : List ℕ) (r : ℕ) → Rising r ys → p ≤ r → map (λ x. get_or (drop p gates) (x - p) (gate 0 0 0 0)) ys ≡ at_places gates ys
at_drop gates p [] r h le = refl
at_drop gates p (y ∷ ys) r h le =
    ap₂ ◌∷◌ (get_or-drop p gates (y - p) (gate 0 0 0 0) ∙ ap (λ (i : ℕ). get_or gates i (gate 0 0 0 0)) (let e : p + (y - p) ≡ y = omega (arith, h.0) in e))
    (at_drop gates p ys (suc y) h.1 (omega (arith, h.0)))

chosen_gates : (gates : List Gate) (o : Occurrence) → Rising (suc o.first) o.later → AllByRecursion (λ q. q < length gates) (places o)
    → picked (is_chosen o) (drop o.first gates) ≡ at_places gates (places o)
chosen_gates gates o h all =
    let p = o.first in
    let up : Rising p (places o) = (omega arith, h) in
    picked_at (drop p gates) (gate 0 0 0 0) p (places o) up
    (All-weaker (λ q. q < length gates) (λ q. q < p + length (drop p gates)) (λ q l. omega (arith, length-drop p gates, all.0)) (places o) all)
    ∙ at_drop gates p (places o) p up (omega arith)

-- what a gate passes, it interchanges with
passes_all : (k : KindMeaning) (passed : List Gate) (g : Gate) → passes k passed g ≡ true → AllByRecursion (λ u. k.free u g ≡ true) passed
passes_all k [] g h = tt
passes_all k (u ∷ passed) g h = let both = and_parts _ _ h in (both.0, passes_all k passed g both.1)

last_of : {X : Type 0} (P : X → Type 0) (xs : List X) (x : X) → AllByRecursion P (xs ++ x ∷ []) → AllByRecursion P xs × P x
last_of P [] x h = (tt, h.0)
last_of P (y ∷ xs) x h = let rest = last_of P xs x h.1 in ((h.0, rest.0), rest.1)

-- chosen gates that move to the front interchange with all unchosen ones before them
pub moved : (k : KindMeaning) (c : ℕ → Bool) (passed gates : List Gate) → moves_front k c passed gates ≡ true
    → ((j : ℕ) (d : Gate) → j < length gates → c j ≡ true → AllByRecursion (λ u. k.free u (get_or gates j d) ≡ true) passed) × Moves k c gates
moved k c passed [] h = ((λ j d lt e. absurd (let z : ⊥ = omega arith in z)), (λ i j d lt le p q. absurd (let z : ⊥ = omega arith in z)))
moved k c passed (g ∷ gates) h = by (c 0) refl (λ before h'. moved k (λ i. c (suc i)) before gates h') h
  where
    Rest : Type 0
    Rest = (before : List Gate) → moves_front k (λ i. c (suc i)) before gates ≡ true
        → ((j : ℕ) (d : Gate) → j < length gates → c (suc j) ≡ true → AllByRecursion (λ u. k.free u (get_or gates j d) ≡ true) before) × Moves k (λ i. c (suc i)) gates

    Goal : Type 0
    Goal = ((j : ℕ) (d : Gate) → j < suc (length gates) → c j ≡ true → AllByRecursion (λ u. k.free u (get_or (g ∷ gates) j d) ≡ true) passed) × Moves k c (g ∷ gates)

    taken : c 0 ≡ true → Rest → (passes k passed g && moves_front k (λ i. c (suc i)) passed gates) ≡ true → Goal
    taken e go h' =
        let both = and_parts _ _ h' in
        let rest = go passed both.1 in
        ((λ j d lt q. first j d lt q (passes_all k passed g both.0) rest.0), (λ i j d lt le p q. later i j d lt le p q e rest.1))
      where
        first : (j : ℕ) (d : Gate) → j < suc (length gates) → c j ≡ true → AllByRecursion (λ u. k.free u g ≡ true) passed
            → ((j : ℕ) (d : Gate) → j < length gates → c (suc j) ≡ true → AllByRecursion (λ u. k.free u (get_or gates j d) ≡ true) passed) → AllByRecursion (λ u. k.free u (get_or (g ∷ gates) j d) ≡ true) passed
        first zero d lt q a ih = a
        first (suc j) d lt q a ih = ih j d (omega arith) q

        later : (i j : ℕ) (d : Gate) → i < j → j < suc (length gates) → c i ≡ false → c j ≡ true → c 0 ≡ true → Moves k (λ i. c (suc i)) gates
            → k.free (get_or (g ∷ gates) i d) (get_or (g ∷ gates) j d) ≡ true
        later zero j d lt le p q e ih = absurd (false≢true (sym p ∙ e))
        later (suc i) zero d lt le p q e ih = absurd (let z : ⊥ = omega arith in z)
        later (suc i) (suc j) d lt le p q e ih = ih i j d (omega arith) (omega arith) p q

    left : c 0 ≡ false → Rest → moves_front k (λ i. c (suc i)) (passed ++ g ∷ []) gates ≡ true → Goal
    left e go h' =
        let rest = go (passed ++ g ∷ []) h' in
        ((λ j d lt q. first j d lt q e rest.0), (λ i j d lt le p q. later i j d lt le p q rest.0 rest.1))
      where
        first : (j : ℕ) (d : Gate) → j < suc (length gates) → c j ≡ true → c 0 ≡ false
            → ((j : ℕ) (d : Gate) → j < length gates → c (suc j) ≡ true → AllByRecursion (λ u. k.free u (get_or gates j d) ≡ true) (passed ++ g ∷ [])) → AllByRecursion (λ u. k.free u (get_or (g ∷ gates) j d) ≡ true) passed
        first zero d lt q e ih = absurd (false≢true (sym e ∙ q))
        first (suc j) d lt q e ih = (last_of (λ u. k.free u (get_or gates j d) ≡ true) passed g (ih j d (omega arith) q)).0

        later : (i j : ℕ) (d : Gate) → i < j → j < suc (length gates) → c i ≡ false → c j ≡ true
            → ((j : ℕ) (d : Gate) → j < length gates → c (suc j) ≡ true → AllByRecursion (λ u. k.free u (get_or gates j d) ≡ true) (passed ++ g ∷ [])) → Moves k (λ i. c (suc i)) gates
            → k.free (get_or (g ∷ gates) i d) (get_or (g ∷ gates) j d) ≡ true
        later i zero d lt le p q ih ms = absurd (let z : ⊥ = omega arith in z)
        later zero (suc j) d lt le p q ih ms = (last_of (λ u. k.free u (get_or gates j d) ≡ true) passed g (ih j d (omega arith) q)).1
        later (suc i) (suc j) d lt le p q ih ms = ms i j d (omega arith) (omega arith) p q

    by : (b : Bool) → c 0 ≡ b → Rest → cond b (passes k passed g && moves_front k (λ i. c (suc i)) passed gates) (moves_front k (λ i. c (suc i)) (passed ++ g ∷ []) gates) ≡ true → Goal
    by true e go h' = taken e go h'
    by false e go h' = left e go h'

-- the controls that an occurrence adds fit
pub adds_fit : (k : KindMeaning) (n : ℕ) (gates : List Gate) (shelf : List EntryMeaning) (o : Occurrence) (is : OccursAs k n gates shelf o) → Fits n o.turn.table is.adds
unfolding Fit
adds_fit k n gates shelf o is =
    let e = template_on shelf o in
    (gathers n o.turn.table _ (asks_outside o.turn.table e.groups (beside (turned k o.turn (placed e.gates)) (at_places gates (places o)))) n (omega arith) is.adds is.extension).1

pub replacing_laws : (k : KindMeaning) → KindLaws k → Replacing k
replacing_laws k laws n gates shelf o formed meets is =
    let e = template_on shelf o in
    let laws-of = replacing.turning k laws n e o.turn is.adds meets is.turn (adds_fit k n gates shelf o is) in
    let here = chosen_gates gates o is.rising is.inside ∙ is.equal in
    let m = length (places o) in
    let first_in : o.first ≤ length gates = omega (arith, is.inside.0) in
    record {
      function = laws-of.replacement o.first m (is_chosen o) gates formed (moved k (is_chosen o) [] (drop o.first gates) is.moves).1 here;
      formed = laws-of.replacement_formed o.first m (is_chosen o) gates formed;
      sum = omega (arith, laws-of.replacement_saves o.first m (is_chosen o) gates is.within first_in here, is.strict);
      some = omega (arith, is.strict);
    }
