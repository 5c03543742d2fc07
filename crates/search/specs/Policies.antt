-- The two policies, and what each singles out of the keys that it is shown.
use Rattle.std.specs.Prelude.{◌≡◌, ℕ, ◌<◌, ◌≤◌, cond, List, [], ◌∷◌, ◌++◌, Some, None, Option, nat_lt}
use Rattle.std.specs.List.{AllByRecursion}
use Rattle.search.specs.declared.policy.Shown.{Shown}
use Rattle.search.specs.declared.policy.Reply.{Reply}
use Rattle.search.specs.declared.policy.Reply.TheVariants.{Leave, Take, Close}
use Rattle.search.specs.Policy.{PolicyMeaning, chosen}

-- the earliest: it closes at the first, and keeps nothing
abbrev pub earliest : PolicyMeaning
earliest = record { cleared = []; reply = λ kept shown. Close; next = λ kept shown. [] }

-- takes what saves more than the best so far, and the first
abbrev pub takes_greater : List ℕ → ℕ → Reply
takes_greater [] saved = Take
takes_greater (best ∷ rest) saved = cond (nat_lt best saved) Take Leave

-- the best so far, with one more
abbrev pub greater : List ℕ → ℕ → List ℕ
greater [] saved = saved ∷ []
greater (best ∷ rest) saved = cond (nat_lt best saved) (saved ∷ []) (best ∷ [])

-- the largest: it takes the first, and then only what saves more than the best so far, which it keeps
abbrev pub largest : PolicyMeaning
largest = record { cleared = []; reply = λ kept shown. takes_greater kept shown.saved; next = λ kept shown. greater kept shown.saved }

-- the numbers that stand for what there may be
abbrev pub listed_number : Option ℕ → List ℕ
listed_number None = []
listed_number (Some number) = number ∷ []

-- the key is the first of those that save most
pub record FirstGreatest (view : List ℕ → Shown) (keys : List (List ℕ)) (key : List ℕ) : Type 0 where
  pub before : List (List ℕ)
  pub after : List (List ℕ)
  pub is : keys ≡ before ++ key ∷ after
  pub less : AllByRecursion (λ k. (view k).saved < (view key).saved) before
  pub no_more : AllByRecursion (λ k. (view k).saved ≤ (view key).saved) after

-- what the policies single out, whatever they see of the keys
pub record PolicyLaws : Type 0 where
  -- neither singles out one of none
  pub earliest_none : (view : List ℕ → Shown) → chosen earliest view [] ≡ None
  pub largest_none : (view : List ℕ → Shown) → chosen largest view [] ≡ None
  -- the earliest singles out the first
  pub earliest_first : (view : List ℕ → Shown) (key : List ℕ) (keys : List (List ℕ)) → chosen earliest view (key ∷ keys) ≡ Some key
  -- the largest singles out the first of those that save most
  pub largest_first : (view : List ℕ → Shown) (key : List ℕ) (keys : List (List ℕ))
      → (best : List ℕ) × (chosen largest view (key ∷ keys) ≡ Some best) × FirstGreatest view (key ∷ keys) best
