-- Running lists of gates: in a row, backward, rotated, flipped and renamed, from the laws of a kind alone.
use Rattle.std.proofs.Common.{◌≡◌, ℕ, ◌^◌, ◌<◌, ◌≤◌, Bool, true, false, cond, eqb, ◌⊎◌, List, [], ◌∷◌, ◌++◌, map, reverse, length, get_or, take, drop, is_some, Some, None, Option, sym, refl, ap, ◌∙◌, subst, ap₂, inl, inr, arith}
use Rattle.std.specs.List.{AllByRecursion}
use mathlib.Core.Path.{fun_ext}
use mathlib.Core.List.{reverse-cons}
use Rattle.std.proofs.lemmas.List.{map-append, take-append-drop, reverse-append}
use Rattle.std.proofs.ByRecursion.{All-append, All-drop, All-map, All-weaker, All-get_or}
use Rattle.std.proofs.lemmas.Bool.{cases_lt}
use Rattle.gates.specs.declared.gate.Gate.{Gate}
use Rattle.gates.specs.Lines.{State, Table, Outside, bit, with_line_lem, upto, inverted, through, where_below}
use Rattle.gates.specs.Kinds.{KindMeaning, KindLaws, Formed, Idle}
use Rattle.gates.specs.Cascades.{run, Restores, backward, rotated, or_else, flipped_or, Flippable}
use Rattle.gates.specs.States.{with_here, with_there, with_own, upto_below, upto_above, upto_own, inverted_twice, in_or_out, through_at, through_past, through_with}
use Rattle.gates.specs.Members.{bits_where, where_lt}

pub all_with : {X : Type 0} (P Q R : X → Type 0) → ((x : X) → P x → Q x → R x) → (xs : List X) → AllByRecursion P xs → AllByRecursion Q xs → AllByRecursion R xs
all_with P Q R f [] p q = tt
all_with P Q R f (x ∷ xs) p q = (f x p.0 q.0, all_with P Q R f xs p.1 q.1)

pub all_reverse : {X : Type 0} (P : X → Type 0) (xs : List X) → AllByRecursion P xs → AllByRecursion P (reverse xs)
all_reverse P [] h = tt
all_reverse P (x ∷ xs) h = rw (reverse-cons x xs) (All-append P (reverse xs) (x ∷ []) (all_reverse P xs h.1) (h.0, tt))

module _ (k : KindMeaning) where
  pub run_append : (xs ys : List Gate) (s : State) → run k (xs ++ ys) s ≡ run k ys (run k xs s)
  run_append [] ys s = refl
  run_append (x ∷ xs) ys s = run_append xs ys (k.sends x s)

  pub backward_cons : (g : Gate) (gates : List Gate) → backward k (g ∷ gates) ≡ backward k gates ++ (k.inverse g ∷ [])
  backward_cons g gates = ap (map k.inverse) (reverse-cons g gates) ∙ map-append k.inverse (reverse gates) (g ∷ [])

  pub run_backward_cons : (g : Gate) (gates : List Gate) (s : State) → run k (backward k (g ∷ gates)) s ≡ k.sends (k.inverse g) (run k (backward k gates) s)
  run_backward_cons g gates s =
      ap (λ (x : List Gate). run k x s) (backward_cons g gates) ∙ run_append (backward k gates) (k.inverse g ∷ []) s

  -- φ carries each new gate to the old one, and so the whole run
  pub carried : (φ : State → State) (f : Gate → Gate) (gates : List Gate) → AllByRecursion (λ g. (s : State) → φ (k.sends (f g) s) ≡ k.sends g (φ s)) gates
      → (s : State) → φ (run k (map f gates) s) ≡ run k gates (φ s)
  carried φ f [] h s = refl
  carried φ f (g ∷ gates) h s = carried φ f gates h.1 (k.sends (f g) s) ∙ ap (run k gates) (h.0 s)

module _ {k : KindMeaning} (laws : KindLaws k) (n : ℕ) where
  pub backward_undoes : (gates : List Gate) → AllByRecursion (Formed k n) gates → (s : State) → run k (backward k gates) (run k gates s) ≡ s
  backward_undoes [] h s = refl
  backward_undoes (g ∷ gates) h s =
      run_backward_cons k g gates _ ∙ ap (k.sends (k.inverse g)) (backward_undoes gates h.1 (k.sends g s)) ∙ laws.undoes n g h.0 s

  pub backward_undone : (gates : List Gate) → AllByRecursion (Formed k n) gates → (s : State) → run k gates (run k (backward k gates) s) ≡ s
  backward_undone [] h s = refl
  backward_undone (g ∷ gates) h s =
      ap (λ (x : State). run k gates (k.sends g x)) (run_backward_cons k g gates s) ∙ ap (run k gates) (laws.undone n g h.0 _) ∙ backward_undone gates h.1 s

  pub backward_formed : (gates : List Gate) → AllByRecursion (Formed k n) gates → AllByRecursion (Formed k n) (backward k gates)
  backward_formed gates h =
      All-map (Formed k n) k.inverse (reverse gates)
      (All-weaker (Formed k n) (λ g. Formed k n (k.inverse g)) (laws.inverse_formed n) (reverse gates) (all_reverse (Formed k n) gates h))

  pub backward_restores : (gates : List Gate) → AllByRecursion (Formed k n) gates → Restores k gates → Restores k (backward k gates)
  backward_restores gates h r s = ap (run k (backward k gates)) (sym (r s)) ∙ backward_undoes gates h s

  -- what comes last undoes what comes first
  pub halves : (xs ys : List Gate) → AllByRecursion (Formed k n) ys → Restores k (xs ++ ys) → (s : State) → run k xs s ≡ run k (backward k ys) s
  halves xs ys h r s =
      sym (backward_undoes ys h (run k xs s)) ∙ ap (run k (backward k ys)) (sym (run_append k xs ys s) ∙ r s)

  pub swapped : (xs ys : List Gate) → AllByRecursion (Formed k n) ys → Restores k (xs ++ ys) → Restores k (ys ++ xs)
  swapped xs ys h r s = run_append k ys xs s ∙ halves xs ys h r (run k ys s) ∙ backward_undoes ys h s

  pub rotated_restores : (r : ℕ) (gates : List Gate) → AllByRecursion (Formed k n) gates → Restores k gates → Restores k (rotated r gates)
  rotated_restores r gates h e =
      swapped (take r gates) (drop r gates) (All-drop (Formed k n) r gates h) (rw (take-append-drop r gates) e)

  pub split : (m : ℕ) (gates : List Gate) → AllByRecursion (Formed k n) gates → Restores k gates → (s : State) → run k (take m gates) s ≡ run k (backward k (drop m gates)) s
  split m gates h e = halves (take m gates) (drop m gates) (All-drop (Formed k n) m gates h) (rw (take-append-drop m gates) e)

  pub backward_twice : (gates : List Gate) → AllByRecursion (Formed k n) gates → backward k (backward k gates) ≡ gates
  backward_twice [] h = refl
  backward_twice (g ∷ gates) h =
      ap (backward k) (backward_cons k g gates)
      ∙ ap (map k.inverse) (reverse-append (backward k gates) (k.inverse g ∷ []))
      ∙ ap₂ ◌∷◌ (laws.inverse_twice n g h.0) (backward_twice gates h.1)

pub idle_keeps : (k : KindMeaning) (g : Gate) (l : ℕ) → Idle k g l → (s : State) → k.sends g s l ≡ s l
idle_keeps k g l h s =
    ap (λ (x : State). k.sends g x l) (sym (with_own s l)) ∙ ap (λ (x : State). x l) (h s (s l)) ∙ with_here (k.sends g s) l (s l)

pub run_idle : (k : KindMeaning) (l : ℕ) (gates : List Gate) → AllByRecursion (λ g. Idle k g l) gates → (s : State) (v : Bool) → run k gates (with_line_lem s l v) ≡ with_line_lem (run k gates s) l v
run_idle k l [] h s v = refl
run_idle k l (g ∷ gates) h s v = ap (run k gates) (h.0 s v) ∙ run_idle k l gates h.1 (k.sends g s) v

some_of : (o : Option Gate) (g : Gate) → is_some o ≡ true → o ≡ Some (or_else o g)
some_of (Some h) g e = refl
some_of None g e = let z : Some g ≡ None = cc in sym z

module _ {k : KindMeaning} (laws : KindLaws k) where
  -- a list that is well formed for n lines neither reads nor changes lines from n on
  pub run_upto : (n : ℕ) (gates : List Gate) → AllByRecursion (Formed k n) gates → (s u : State) → run k gates (upto n s u) ≡ upto n (run k gates s) u
  run_upto n [] h s u = refl
  run_upto n (g ∷ gates) h s u = ap (run k gates) (laws.local n g h.0 s u) ∙ run_upto n gates h.1 (k.sends g s) u

  pub run_above : (n : ℕ) (gates : List Gate) → AllByRecursion (Formed k n) gates → (s : State) (i : ℕ) → n ≤ i → run k gates s i ≡ s i
  run_above n gates h s i ge =
      ap (λ (x : State). run k gates x i) (sym (upto_own n s)) ∙ ap (λ (x : State). x i) (run_upto n gates h s s) ∙ upto_above n (run k gates s) s i ge

  -- whether a list restores every state is seen at one state for each way that the lines below n can stand
  pub restores_few : (n : ℕ) (gates : List Gate) → AllByRecursion (Formed k n) gates → (u : State) → ((s : State) → run k gates (upto n s u) ≡ upto n s u) → Restores k gates
  restores_few n gates h u r s = fun_ext λ i. at i (cases_lt i n)
    where
      at : (i : ℕ) → (i < n) ⊎ (n ≤ i) → run k gates s i ≡ s i
      at i (inl lt) =
          sym (upto_below n (run k gates s) u i lt) ∙ ap (λ (x : State). x i) (sym (run_upto n gates h s u) ∙ r s) ∙ upto_below n s u i lt
      at i (inr ge) = run_above n gates h s i ge

  pub flipped_or_formed : (n f : ℕ) (g : Gate) → Formed k n g → Flippable k f g → Formed k n (flipped_or k f g)
  flipped_or_formed n f g h e = laws.flipped_formed n f g (flipped_or k f g) h (some_of (k.flipped f g) g e)

  flip_carries : (n f : ℕ) (g : Gate) → Formed k n g → Flippable k f g → (s : State) → inverted f (k.sends (flipped_or k f g) s) ≡ k.sends g (inverted f s)
  flip_carries n f g h e s =
      ap (inverted f) (laws.flipped_does n f g (flipped_or k f g) h (some_of (k.flipped f g) g e) s) ∙ inverted_twice f (k.sends g (inverted f s))

  pub flipped_runs : (n f : ℕ) (gates : List Gate) → AllByRecursion (Formed k n) gates → AllByRecursion (Flippable k f) gates
      → (s : State) → run k (map (flipped_or k f) gates) s ≡ inverted f (run k gates (inverted f s))
  flipped_runs n f gates h e s =
      sym (inverted_twice f (run k (map (flipped_or k f) gates) s)) ∙ ap (inverted f) (carried k (inverted f) (flipped_or k f) gates each s)
    where
      each : AllByRecursion (λ g. (s : State) → inverted f (k.sends (flipped_or k f g) s) ≡ k.sends g (inverted f s)) gates
      each = all_with (Formed k n) (Flippable k f) (λ g. (s : State) → inverted f (k.sends (flipped_or k f g) s) ≡ k.sends g (inverted f s)) (flip_carries n f) gates h e

  pub flipped_restores : (n f : ℕ) (gates : List Gate) → AllByRecursion (Formed k n) gates → AllByRecursion (Flippable k f) gates → Restores k gates → Restores k (map (flipped_or k f) gates)
  flipped_restores n f gates h e r s = flipped_runs n f gates h e s ∙ ap (inverted f) (r (inverted f s)) ∙ inverted_twice f s

  module _ (l n : ℕ) (t : List ℕ) (table : Table l n t) where
    pub rename_carries : (g : Gate) → Formed k l g → (s : State) → through t (k.sends (k.renamed t g) s) ≡ k.sends g (through t s)
    rename_carries g h s = fun_ext λ i. at i (cases_lt i l)
      where
        at : (i : ℕ) → (i < l) ⊎ (l ≤ i) → through t (k.sends (k.renamed t g) s) i ≡ k.sends g (through t s) i
        at i (inl lt) = through_at t (k.sends (k.renamed t g) s) i (omega (arith, table.long)) ∙ laws.renamed_on l n t g table h s i lt
        at i (inr ge) =
            let past : length t ≤ i = omega (arith, table.long) in
            through_past t _ i past ∙ sym (run_above l (g ∷ []) (h, tt) (through t s) i ge ∙ through_past t s i past)

    pub renamed_leaves : (gates : List Gate) → AllByRecursion (Formed k l) gates → (s : State) (j : ℕ) → Outside t j → run k (map (k.renamed t) gates) s j ≡ s j
    renamed_leaves [] h s j out = refl
    renamed_leaves (g ∷ gates) h s j out = renamed_leaves gates h.1 (k.sends (k.renamed t g) s) j out ∙ laws.renamed_off l n t g table h.0 s j out

    pub renamed_runs : (gates : List Gate) → AllByRecursion (Formed k l) gates → (s : State) → through t (run k (map (k.renamed t) gates) s) ≡ run k gates (through t s)
    renamed_runs gates h s =
        carried k (through t) (k.renamed t) gates (All-weaker (Formed k l) (λ g. (s : State) → through t (k.sends (k.renamed t g) s) ≡ k.sends g (through t s)) rename_carries gates h) s

    pub renamed_restores : (gates : List Gate) → AllByRecursion (Formed k l) gates → Restores k gates → Restores k (map (k.renamed t) gates)
    renamed_restores gates h r s = fun_ext λ j. at j (in_or_out t j)
      where
        new : State
        new = run k (map (k.renamed t) gates) s

        same : through t new ≡ through t s
        same = renamed_runs gates h s ∙ r (through t s)

        at : (j : ℕ) → ((i : ℕ) × (i < length t) × (get_or t i 0 ≡ j)) ⊎ Outside t j → new j ≡ s j
        at j (inl (i, lt, e)) =
            subst (λ (x : ℕ). new x ≡ s x) e (sym (through_at t new i lt) ∙ ap (λ (x : State). x i) same ∙ through_at t s i lt)
        at j (inr out) = renamed_leaves gates h s j out

    -- a renamed gate neither reads nor changes a line outside the table
    pub renamed_idle : (g : Gate) → Formed k l g → (j : ℕ) → Outside t j → Idle k (k.renamed t g) j
    renamed_idle g h j out s v = fun_ext λ m. at m (in_or_out t m)
      where
        new : State → State
        new = k.sends (k.renamed t g)

        at : (m : ℕ) → ((i : ℕ) × (i < length t) × (get_or t i 0 ≡ m)) ⊎ Outside t m → new (with_line_lem s j v) m ≡ with_line_lem (new s) j v m
        at m (inl (i, lt, e)) =
            let il : i < l = omega (arith, table.long) in
            subst (λ (x : ℕ). new (with_line_lem s j v) x ≡ with_line_lem (new s) j v x) e
            (laws.renamed_on l n t g table h (with_line_lem s j v) i il
            ∙ ap (λ (r : List Bool). k.sends g (λ x. get_or r x false) i) (through_with t s j v out)
            ∙ sym (laws.renamed_on l n t g table h s i il)
            ∙ sym (with_there (new s) j (get_or t i 0) v (All-get_or (λ x. x ≡ j → ⊥) t i 0 lt out)))
        at m (inr off) = laws.renamed_off l n t g table h (with_line_lem s j v) m off ∙ ap (λ (b : Bool). cond (eqb m j) v b) (sym (laws.renamed_off l n t g table h s m off))

  pub few_states : (n : ℕ) (gates : List Gate) → AllByRecursion (Formed k n) gates → ((x : ℕ) → x < 2 ^ n → run k gates (bit x) ≡ bit x) → Restores k gates
  few_states n gates h r =
      restores_few n gates h (λ _. false)
      (λ s. subst (λ (x : State). run k gates x ≡ x) (bits_where n s) (r (where_below n s) (where_lt n s)))
