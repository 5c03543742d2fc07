-- What the policies single out of a list of keys.
use Rattle.std.proofs.Common.{◌≡◌, ℕ, ◌<◌, ◌≤◌, Bool, false, cond, ◌⊎◌, List, [], ◌∷◌, ◌++◌, Some, sym, refl, ap, ◌∙◌, subst, inl, inr, arith}
use Rattle.std.specs.List.{AllByRecursion}
use Rattle.std.proofs.lemmas.List.{append-nil, append_assoc}
use Rattle.std.proofs.ByRecursion.{All-append, All-weaker}
use Rattle.std.proofs.lemmas.Bool.{cases_lt, lt-ltb, le-ltb}
use Rattle.search.specs.declared.policy.Shown.{Shown}
use Rattle.search.specs.declared.policy.Reply.TheVariants.{Leave, Take}
use Rattle.search.specs.Policy.{Standing, standing, replied, scan}
use Rattle.search.proofs.Scans.{scan_closed}
use Rattle.search.specs.Policies.{earliest, largest, FirstGreatest, PolicyLaws}

module _ (view : List ℕ → Shown) where
  -- where the largest stands with that key taken
  at_best : List ℕ → Standing (List ℕ)
  at_best key = standing false ((view key).saved ∷ []) (Some key)

  -- one key that saves more, and one that does not
  shown_more : (best key : List ℕ) (keys : List (List ℕ)) → (view best).saved < (view key).saved → scan largest view (at_best best) (key ∷ keys) ≡ scan largest view (at_best key) keys
  unfolding scan at_best
  shown_more best key keys more =
      ap (λ (b : Bool). scan largest view (replied (cond b Take Leave) (cond b ((view key).saved ∷ []) ((view best).saved ∷ [])) (Some best) key) keys) (lt-ltb (view best).saved (view key).saved more)

  shown_less : (best key : List ℕ) (keys : List (List ℕ)) → (view key).saved ≤ (view best).saved → scan largest view (at_best best) (key ∷ keys) ≡ scan largest view (at_best best) keys
  unfolding scan at_best
  shown_less best key keys less =
      ap (λ (b : Bool). scan largest view (replied (cond b Take Leave) (cond b ((view key).saved ∷ []) ((view best).saved ∷ [])) (Some best) key) keys) (le-ltb (view best).saved (view key).saved less)

  -- what the largest singles out, from the best of those that it was shown on
  Singled : List (List ℕ) → List ℕ → List (List ℕ) → Type 0
  Singled whole best keys = (found : List ℕ) × ((scan largest view (at_best best) keys).taken ≡ Some found) × FirstGreatest view whole found

  singles : (before after keys : List (List ℕ)) (best : List ℕ) → AllByRecursion (λ k. (view k).saved < (view best).saved) before → AllByRecursion (λ k. (view k).saved ≤ (view best).saved) after
      → Singled ((before ++ best ∷ after) ++ keys) best keys
  unfolding scan Singled at_best
  singles before after [] best less no_more =
      (best, refl, record { before = before; after = after; is = append-nil (before ++ best ∷ after); less = less; no_more = no_more })
  singles before after (key ∷ keys) best less no_more =
      at (cases_lt (view best).saved (view key).saved) (singles (before ++ best ∷ after) [] keys key) (singles before (after ++ key ∷ []) keys best less)
    where
      Goal : Type 0
      Goal = (found : List ℕ) × ((scan largest view (at_best best) (key ∷ keys)).taken ≡ Some found) × FirstGreatest view ((before ++ best ∷ after) ++ key ∷ keys) found

      at : ((view best).saved < (view key).saved) ⊎ ((view key).saved ≤ (view best).saved)
          → (AllByRecursion (λ k. (view k).saved < (view key).saved) (before ++ best ∷ after) → Unit {0} → Singled (((before ++ best ∷ after) ++ key ∷ []) ++ keys) key keys)
          → (AllByRecursion (λ k. (view k).saved ≤ (view best).saved) (after ++ key ∷ []) → Singled ((before ++ best ∷ (after ++ key ∷ [])) ++ keys) best keys)
          → Goal
      at (inl more) newer older =
          let all : AllByRecursion (λ k. (view k).saved < (view key).saved) (before ++ best ∷ after) =
          All-append (λ k. (view k).saved < (view key).saved) before (best ∷ after)
          (All-weaker (λ k. (view k).saved < (view best).saved) (λ k. (view k).saved < (view key).saved) (λ k h. omega arith) before less)
          (more, All-weaker (λ k. (view k).saved ≤ (view best).saved) (λ k. (view k).saved < (view key).saved) (λ k h. omega arith) after no_more) in
          let (found, is, first) = newer all tt in (
            found,
            ap (λ (s : Standing (List ℕ)). s.taken) (shown_more best key keys more) ∙ is,
            subst (λ (whole : List (List ℕ)). FirstGreatest view whole found) (append_assoc (before ++ best ∷ after) (key ∷ []) keys) first,
          )
      at (inr same) newer older =
          let all : AllByRecursion (λ k. (view k).saved ≤ (view best).saved) (after ++ key ∷ []) = All-append (λ k. (view k).saved ≤ (view best).saved) after (key ∷ []) no_more (same, tt) in
          let (found, is, first) = older all in (
            found,
            ap (λ (s : Standing (List ℕ)). s.taken) (shown_less best key keys same) ∙ is,
            subst (λ (whole : List (List ℕ)). FirstGreatest view whole found)
                (ap (λ (front : List (List ℕ)). front ++ keys) (sym (append_assoc before (best ∷ after) (key ∷ []))) ∙ append_assoc (before ++ best ∷ after) (key ∷ []) keys) first,
          )

pub policy_laws_lem : PolicyLaws
unfolding scan Singled at_best
policy_laws_lem = record {
  earliest_none = λ view. refl;
  largest_none = λ view. refl;
  earliest_first = λ view key keys. ap (λ (s : Standing (List ℕ)). s.taken) (scan_closed earliest view [] (Some key) keys);
  largest_first = λ view key keys. singles view [] [] keys key tt tt;
}
