-- From a search of all keys to its answer.
use Rattle.std.proofs.Common.{◌≡◌, ℕ, suc, ◌<◌, ◌≤◌, Bool, true, false, List, [], ◌∷◌, is_some, Some, None, IsSomeAnd, MatchOption, Decides, Option, sym, refl, ap, ◌∙◌, subst, ⊎_elim, arith}
use Rattle.std.proofs.lemmas.Option.{none-some}
use Rattle.std.proofs.lemmas.Bool.{cases_lt, true≢false, false≢true}
use Rattle.search.specs.declared.policy.Shown.{Shown}
use Rattle.search.specs.Policy.{PolicyMeaning, TakesFirst, Standing, standing, scan, opening}
use Rattle.search.specs.Listing.{Passes, FitsKey, StartsFrom, row, listed, Searched, Chosen, found_key}
use Rattle.search.specs.declared.key.Key.{Key}
use Rattle.search.specs.declared.walk.Found.{Found}
use Rattle.search.specs.Keys.{key_size, number_limit, keyed, held, In, Begins, ShownIn}
use Rattle.search.proofs.Scans.{none_of_none, nothing_of_none, scan_has, chosen_has}
use Rattle.search.proofs.Ranks.{all_from_in, in_first_row, shown_listed, shown_like}
use Rattle.search.proofs.Steps.{Seen}
use Rattle.search.proofs.Unique.{shown_unique}

-- once a key is taken, `lowest` is the least first number of the keys that pass
pub record FoundBy (test : List ℕ → Bool) (lowest : ℕ) (taken : Option (List ℕ)) : Type 0 where
  pub below : StartsFrom (Passes test) lowest
  pub there : (k : List ℕ) → taken ≡ Some k → (rest : List ℕ) × Passes test (lowest ∷ rest)

pub found_none : (test : List ℕ → Bool) (lowest : ℕ) → StartsFrom (Passes test) lowest → FoundBy test lowest None
found_none test lowest below = record { below = below; there = λ k e. absurd (none-some k e) }

module _ (rule : PolicyMeaning) (view : List ℕ → Shown) (test : List ℕ → Bool) (limit left base : ℕ) (now : Standing (List ℕ)) (first : TakesFirst rule) (fits : FitsKey test (suc left) limit)
    (seen : Seen rule view test limit left [] (opening rule) base now) (none : now.taken ≡ None) where
  -- while nothing is taken, no key that passes begins below the number that the search came to
  none_below : StartsFrom (Passes test) base
  none_below v rest p =
      let empty : row base (λ u. listed test limit left (u ∷ [])) ≡ [] = none_of_none rule view first _ (sym (ap (λ (s : Standing (List ℕ)). s.taken) seen) ∙ none) in
      ⊎_elim (λ (l : v < base). absurd (subst (In (v ∷ rest)) empty (in_first_row test limit left base v rest fits l p))) (λ (l : base ≤ v). l) (cases_lt v base)

  -- the first key that is taken begins with that number
  pub found_first : (after : Standing (List ℕ)) (k : List ℕ) → k ≡ base ∷ [] → (d : ℕ) → d ≡ left → after ≡ scan rule view now (listed test limit d k) → FoundBy test base after.taken
  found_first after k put d less e = record {
    below = none_below;
    there = λ j said.
        let shown = shown_listed test (suc left) limit left (base ∷ []) fits (omega arith) in
        let same : after ≡ scan rule view now (listed test limit left (base ∷ [])) = e ∙ ap (λ (n : ℕ). scan rule view now (listed test limit n k)) less ∙ ap (λ (x : List ℕ). scan rule view now (listed test limit left x)) put in
        let has = scan_has rule view (λ j. Begins (base ∷ []) j × Passes test j) now (listed test limit left (base ∷ [])) j none (all_from_in _ _ (λ i at. shown.each i at)) (sym (ap (λ (s : Standing (List ℕ)). s.taken) same) ∙ said) in
        (has.0.0, subst (Passes test) has.0.1 has.1);
  }

-- where there is no key, none is held
pub held_none : (o : Option Key) → is_some o ≡ false → held o ≡ None
held_none None e = refl
held_none (Some key) e = absurd (true≢false e)

held_some : (o : Option Key) → is_some o ≡ true → (k : List ℕ) × (held o ≡ Some k)
held_some None e = absurd (false≢true e)
held_some (Some key) e = (keyed key, refl)

-- a key was taken before: nothing changes
pub found_before : (test : List ℕ → Bool) (lowest : ℕ) (before : Option Key) (after : Option (List ℕ)) → is_some before ≡ true → FoundBy test lowest (held before) → FoundBy test lowest after
found_before test lowest before after some f = record { below = f.below; there = λ _ _. let h = held_some before some in f.there h.0 h.1 }

-- what a search of all keys leaves
pub searched : (rule : PolicyMeaning) (view : List ℕ → Shown) (test : List ℕ → Bool) (closed : Bool) (kept : List ℕ) (taken : Option (List ℕ)) (lowest : ℕ)
    → standing closed kept taken ≡ scan rule view (opening rule) (listed test number_limit key_size []) → FoundBy test lowest taken → Searched test view rule taken kept lowest
searched rule view test closed kept taken lowest e f = record {
  takes = ap (λ (s : Standing (List ℕ)). s.taken) e;
  keeps = ap (λ (s : Standing (List ℕ)). s.kept) e;
  low = λ k said. let there = f.there k said in record { below = f.below; rest = there.0; there = there.1 };
}

-- the answer
pub chosen_from : (rule : PolicyMeaning) (view : List ℕ → Shown) (Occurs : List ℕ → Type 0) (test : List ℕ → Bool) → ((k : List ℕ) → Decides (test k) (Occurs k)) → FitsKey test key_size number_limit → TakesFirst rule
    → (taken : Option (List ℕ)) (kept : List ℕ) (lowest : ℕ) → Searched test view rule taken kept lowest → Chosen Occurs view rule taken kept
chosen_from rule view Occurs test decides fits first taken kept lowest s =
    let os = listed test number_limit key_size [] in
    let shown : ShownIn Occurs [] os = shown_like (Passes test) Occurs [] os (λ k. (decides k).0) (λ k. (decides k).1) (shown_listed test key_size number_limit key_size [] fits (omega arith)) in
    record {
      os = os;
      shown = shown;
      only = λ other t. shown_unique Occurs [] os other shown t;
      singled = s.takes;
      keeps = s.keeps;
      none = λ said. none_of_none rule view first os (sym s.takes ∙ said);
      nothing = λ empty. s.takes ∙ nothing_of_none rule view os empty;
      occurs = λ k said. chosen_has rule view Occurs os k (all_from_in Occurs os (λ j i. (shown.each j i).1)) (sym s.takes ∙ said);
    }

-- what was found has the key that was taken
pub found_by_map : (P : Key → Found → Type 0) → ((key : Key) (found : Found) → P key found → key ≡ found.key) → (taken : Option Key) (answer : Option Found)
    → MatchOption taken (answer ≡ None) (λ key. IsSomeAnd answer (P key)) → held taken ≡ found_key answer
found_by_map P of None answer e = sym (ap found_key e)
found_by_map P of (Some key) None e = absurd e
found_by_map P of (Some key) (Some found) e = ap (λ (k : Key). Some (keyed k)) (of key found e)
