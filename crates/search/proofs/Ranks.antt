-- Lists of keys in rank order, put together from the lists under each next number.
use Rattle.std.proofs.Common.{◌≡◌, ℕ, zero, suc, ◌+◌, ◌<◌, ◌≤◌, Bool, true, false, cond, ◌⊎◌, List, [], ◌∷◌, ◌++◌, length, sym, refl, ap, ◌∙◌, subst, inl, inr, ⊎_elim, arith}
use Rattle.std.specs.List.{AllByRecursion}
use Rattle.std.proofs.lemmas.List.{append-nil, append_assoc, length-append}
use Rattle.std.proofs.ByRecursion.{All-append}
use Rattle.std.proofs.lemmas.Bool.{cases_lt}
use Rattle.search.specs.Keys.{Before, Ascending, In, Begins, ShownIn}
use Rattle.search.specs.Listing.{Passes, FitsKey, row, alone, listed}

in_left : (k : List ℕ) (xs ys : List (List ℕ)) → In k xs → In k (xs ++ ys)
in_left k [] ys h = absurd h
in_left k (x ∷ xs) ys (inl e) = inl e
in_left k (x ∷ xs) ys (inr h) = inr (in_left k xs ys h)

in_right : (k : List ℕ) (xs ys : List (List ℕ)) → In k ys → In k (xs ++ ys)
in_right k [] ys h = h
in_right k (x ∷ xs) ys h = inr (in_right k xs ys h)

in_either : (k : List ℕ) (xs ys : List (List ℕ)) → In k (xs ++ ys) → In k xs ⊎ In k ys
in_either k [] ys h = inr h
in_either k (x ∷ xs) ys (inl e) = inl (inl e)
in_either k (x ∷ xs) ys (inr h) = ⊎_elim (λ p. inl (inr p)) (λ q. inr q) (in_either k xs ys h)

in_row : (f : ℕ → List (List ℕ)) (n v : ℕ) (k : List ℕ) → v < n → In k (f v) → In k (row n f)
unfolding row
in_row f zero v k l h = absurd (omega arith)
in_row f (suc n) v k l h =
    ⊎_elim
    (λ (p : v < n). in_left k (row n f) (f n) (in_row f n v k p h))
    (λ (q : n ≤ v). in_right k (row n f) (f n) (let same : v ≡ n = omega arith in subst (λ (i : ℕ). In k (f i)) same h))
    (cases_lt v n)

of_row : (f : ℕ → List (List ℕ)) (n : ℕ) (k : List ℕ) → In k (row n f) → (v : ℕ) × (v < n) × In k (f v)
unfolding row
of_row f zero k h = absurd h
of_row f (suc n) k h =
    ⊎_elim
    (λ (p : In k (row n f)). let r = of_row f n k p in (r.0, omega (arith, r.1), r.2))
    (λ (q : In k (f n)). (n, omega arith, q))
    (in_either k (row n f) (f n) h)

-- what holds of each member
pub all_from_in : (P : List ℕ → Type 0) (xs : List (List ℕ)) → ((k : List ℕ) → In k xs → P k) → AllByRecursion P xs
all_from_in P [] h = tt
all_from_in P (x ∷ xs) h = (h x (inl refl), all_from_in P xs (λ k i. h k (inr i)))

ascending_append : (xs ys : List (List ℕ)) → Ascending xs → Ascending ys → ((j k : List ℕ) → In j xs → In k ys → Before j k) → Ascending (xs ++ ys)
ascending_append [] ys r s h = s
ascending_append (x ∷ xs) ys r s h =
    (All-append (Before x) xs ys r.0 (all_from_in (Before x) ys (λ k i. h x k (inl refl) i)), ascending_append xs ys r.1 s (λ j k i l. h j k (inr i) l))

before_by : (prefix : List ℕ) (u v : ℕ) (r s : List ℕ) → u < v → Before (prefix ++ u ∷ r) (prefix ++ v ∷ s)
before_by [] u v r s l = inl l
before_by (x ∷ prefix) u v r s l = inr (refl, before_by prefix u v r s l)

before_longer : (prefix : List ℕ) (v : ℕ) (r : List ℕ) → Before prefix (prefix ++ v ∷ r)
before_longer [] v r = tt
before_longer (x ∷ prefix) v r = inr (refl, before_longer prefix v r)

-- a key that begins with the prefix and one number more
begins_less : (prefix : List ℕ) (v : ℕ) (k : List ℕ) → Begins (prefix ++ v ∷ []) k → (rest : List ℕ) × (k ≡ prefix ++ v ∷ rest)
begins_less prefix v k b = (b.0, b.1 ∙ append_assoc prefix (v ∷ []) b.0)

begins_more : (prefix : List ℕ) (v : ℕ) (rest k : List ℕ) → k ≡ prefix ++ v ∷ rest → Begins (prefix ++ v ∷ []) k
begins_more prefix v rest k e = (rest, e ∙ sym (append_assoc prefix (v ∷ []) rest))

-- the list of the prefix itself, if it satisfies P
record Own (P : List ℕ → Type 0) (prefix : List ℕ) (own : List (List ℕ)) : Type 0 where
  pub ascending : Ascending own
  pub each : (k : List ℕ) → In k own → (k ≡ prefix) × P k
  pub all : P prefix → In prefix own

module _ (P : List ℕ → Type 0) (prefix : List ℕ) (own : List (List ℕ)) (self : Own P prefix own) where
  own_each : (k : List ℕ) → In k own → Begins prefix k × P k
  own_each k i = let e = self.each k i in (([], e.0 ∙ sym (append-nil prefix)), e.1)

  own_all : (k : List ℕ) → k ≡ prefix ++ [] → P k → In k own
  own_all k e p =
      let same : k ≡ prefix = e ∙ append-nil prefix in
      subst (λ (j : List ℕ). In j own) (sym same) (self.all (subst P same p))

  -- no longer key satisfies P
  shown_last : ((v : ℕ) (rest : List ℕ) → P (prefix ++ v ∷ rest) → ⊥) → ShownIn P prefix own
  shown_last ends = record { ascending = self.ascending; each = own_each; all = λ k b p. into k b.0 b.1 p }
    where
      into : (k rest : List ℕ) → k ≡ prefix ++ rest → P k → In k own
      into k [] e p = own_all k e p
      into k (v ∷ rest) e p = absurd (ends v rest (subst P e p))

  -- levels join: the prefix itself, then what is shown under each next number
  module _ (f : ℕ → List (List ℕ)) where
    ascending_row : (n : ℕ) → ((v : ℕ) → v < n → ShownIn P (prefix ++ v ∷ []) (f v)) → Ascending (row n f)
    unfolding row
    ascending_row zero h = tt
    ascending_row (suc n) h =
        ascending_append (row n f) (f n) (ascending_row n (λ v l. h v (omega arith))) (h n (omega arith)).ascending
        (λ j k i l.
        let r = of_row f n j i in
        let a = begins_less prefix r.0 j ((h r.0 (omega (arith, r.1))).each j r.2).0 in
        let b = begins_less prefix n k ((h n (omega arith)).each k l).0 in
        rw (a.1, b.1) (before_by prefix r.0 n a.0 b.0 r.1))

    shown_join : (n : ℕ) → ((v : ℕ) → v < n → ShownIn P (prefix ++ v ∷ []) (f v)) → ((v : ℕ) (rest : List ℕ) → P (prefix ++ v ∷ rest) → v < n) → ShownIn P prefix (own ++ row n f)
    shown_join n h below = record {
      ascending = ascending_append own (row n f) self.ascending (ascending_row n h)
          (λ j k i l.
          let r = of_row f n k l in
          let b = begins_less prefix r.0 k ((h r.0 r.1).each k r.2).0 in
          rw ((self.each j i).0, b.1) (before_longer prefix r.0 b.0));
      each = λ k i. ⊎_elim (own_each k) (of k) (in_either k own (row n f) i);
      all = λ k b p. into k b.0 b.1 p;
    }
      where
        of : (k : List ℕ) → In k (row n f) → Begins prefix k × P k
        of k i =
            let r = of_row f n k i in
            let s = (h r.0 r.1).each k r.2 in
            let b = begins_less prefix r.0 k s.0 in
            ((r.0 ∷ b.0, b.1), s.1)

        into : (k rest : List ℕ) → k ≡ prefix ++ rest → P k → In k (own ++ row n f)
        into k [] e p = in_left k own (row n f) (own_all k e p)
        into k (v ∷ rest) e p =
            let l : v < n = below v rest (subst P e p) in
            in_right k own (row n f) (in_row f n v k l ((h v l).all k (begins_more prefix v rest k e) p))

own_alone : (test : List ℕ → Bool) (prefix : List ℕ) → Own (Passes test) prefix (alone test prefix)
unfolding alone
own_alone test prefix = record {
  ascending = elim (test prefix) as (λ t. Ascending (cond t (prefix ∷ []) [])) [ true ↦ (tt, tt) | false ↦ tt ];
  each = λ k i. each k (test prefix) refl i;
  all = λ e. subst (λ (t : Bool). In prefix (cond t (prefix ∷ []) [])) (sym e) (inl refl);
}
  where
    each : (k : List ℕ) (t : Bool) → test prefix ≡ t → In k (cond t (prefix ∷ []) []) → (k ≡ prefix) × (test k ≡ true)
    each k true e i = let same : k ≡ prefix = ⊎_elim (λ p. p) (λ q. absurd q) i in (same, ap test same ∙ e)
    each k false e i = absurd i

small_at : (limit : ℕ) (prefix : List ℕ) (v : ℕ) (rest : List ℕ) → AllByRecursion (λ u. u < limit) (prefix ++ v ∷ rest) → v < limit
small_at limit [] v rest h = h.0
small_at limit (x ∷ prefix) v rest h = small_at limit prefix v rest h.1

-- what is listed is what is to be shown
pub shown_listed : (test : List ℕ → Bool) (most limit left : ℕ) (prefix : List ℕ) → FitsKey test most limit → length prefix + left ≡ most → ShownIn (Passes test) prefix (listed test limit left prefix)
unfolding listed
shown_listed test most limit zero prefix fits e =
    shown_last (Passes test) prefix (alone test prefix) (own_alone test prefix)
    (λ v rest p. omega (arith, fits.short (prefix ++ v ∷ rest) p, length-append prefix (v ∷ rest)))
shown_listed test most limit (suc left) prefix fits e =
    shown_join (Passes test) prefix (alone test prefix) (own_alone test prefix) (λ v. listed test limit left (prefix ++ v ∷ [])) limit
    (λ v _. shown_listed test most limit left (prefix ++ v ∷ []) fits (omega (arith, length-append prefix (v ∷ []))))
    (λ v rest p. small_at limit prefix v rest (fits.small (prefix ++ v ∷ rest) p))

-- each key that passes and begins below `base` is in the first row
pub in_first_row : (test : List ℕ → Bool) (limit left base v : ℕ) (rest : List ℕ) → FitsKey test (suc left) limit → v < base → Passes test (v ∷ rest) → In (v ∷ rest) (row base (λ u. listed test limit left (u ∷ [])))
in_first_row test limit left base v rest fits l p =
    in_row (λ u. listed test limit left (u ∷ [])) base v (v ∷ rest) l ((shown_listed test (suc left) limit left (v ∷ []) fits (omega arith)).all (v ∷ rest) (rest, refl) p)

-- another property of the same keys
pub shown_like : (P Q : List ℕ → Type 0) (prefix : List ℕ) (os : List (List ℕ)) → ((k : List ℕ) → P k → Q k) → ((k : List ℕ) → Q k → P k) → ShownIn P prefix os → ShownIn Q prefix os
shown_like P Q prefix os to from s = record { ascending = s.ascending; each = λ k i. ((s.each k i).0, to k (s.each k i).1); all = λ k b q. s.all k b (from k q) }
