-- Laws of showing a policy a list.
use Rattle.std.proofs.Common.{◌≡◌, ℕ, Bool, true, false, List, [], ◌∷◌, ◌++◌, Some, None, Option, sym, refl, ap, ◌∙◌, subst}
use Rattle.std.specs.List.{AllByRecursion}
use Rattle.std.proofs.lemmas.Option.{none-some}
use Rattle.search.specs.declared.policy.Shown.{Shown}
use Rattle.search.specs.declared.policy.Reply.{Reply}
use Rattle.search.specs.declared.policy.Reply.TheVariants.{Leave, Take, Close}
use Rattle.search.specs.Policy.{PolicyMeaning, TakesFirst, Standing, standing, replied, shown_one, scan, opening, chosen}

module _ {X : Type 0} (rule : PolicyMeaning) (view : X → Shown) where
  pub scan_nil : (s : Standing X) → scan rule view s [] ≡ s
  unfolding scan
  scan_nil s = refl

  -- a list and then another
  pub scan_append : (s : Standing X) (xs ys : List X) → scan rule view s (xs ++ ys) ≡ scan rule view (scan rule view s xs) ys
  unfolding scan
  scan_append s [] ys = refl
  scan_append s (x ∷ xs) ys = scan_append (shown_one rule view s.closed s.kept s.taken x) xs ys

  -- once the policy closed, nothing changes
  pub scan_closed : (kept : List ℕ) (taken : Option X) (xs : List X) → scan rule view (standing true kept taken) xs ≡ standing true kept taken
  unfolding scan
  scan_closed kept taken [] = refl
  scan_closed kept taken (x ∷ xs) = scan_closed kept taken xs

  pub scan_after_close : (s : Standing X) (xs : List X) → s.closed ≡ true → s ≡ scan rule view s xs
  scan_after_close s xs e =
      let same : s ≡ standing true s.kept s.taken = ap (λ (b : Bool). standing b s.kept s.taken) e in
      same ∙ sym (ap (λ (t : Standing X). scan rule view t xs) same ∙ scan_closed s.kept s.taken xs)

  -- one is shown
  pub scan_one : (kept : List ℕ) (taken : Option X) (x : X) (r : Reply) (s : Shown) (after : List ℕ) → s ≡ view x → r ≡ rule.reply kept s → after ≡ rule.next kept s
      → replied r after taken x ≡ scan rule view (standing false kept taken) (x ∷ [])
  unfolding scan
  scan_one kept taken x r s after seen said keeps =
      let at : Shown → Standing X = λ t. replied (rule.reply kept t) (rule.next kept t) taken x in
      ap (λ (q : Reply). replied q after taken x) said ∙ ap (λ (n : List ℕ). replied (rule.reply kept s) n taken x) keeps ∙ ap at seen

  -- a fact of what is taken, if of each that is shown, holds on
  module _ (P : Option X → Type 0) (each : X → Type 0) (some : (x : X) → each x → P (Some x)) where
    kept_replied : (r : Reply) (kept : List ℕ) (taken : Option X) (x : X) → (r ≡ Leave → P taken) → each x → P (replied r kept taken x).taken
    kept_replied Leave kept taken x p e = p refl
    kept_replied Take kept taken x p e = some x e
    kept_replied Close kept taken x p e = some x e

    kept_one : (closed : Bool) (kept : List ℕ) (taken : Option X) (x : X) → P taken → each x → P (shown_one rule view closed kept taken x).taken
    kept_one true kept taken x p e = p
    kept_one false kept taken x p e = kept_replied (rule.reply kept (view x)) (rule.next kept (view x)) taken x (λ _. p) e

    scan_keeps : (s : Standing X) (xs : List X) → P s.taken → AllByRecursion each xs → P (scan rule view s xs).taken
    unfolding scan
    scan_keeps s [] p a = p
    scan_keeps s (x ∷ xs) p a = scan_keeps (shown_one rule view s.closed s.kept s.taken x) xs (kept_one s.closed s.kept s.taken x p a.0) a.1

  -- something is taken
  abbrev Taken : Option X → Type 0
  Taken o = o ≡ None → ⊥

  all_unit : (xs : List X) → AllByRecursion (λ _. Unit {0}) xs
  all_unit [] = tt
  all_unit (x ∷ xs) = (tt, all_unit xs)

  some_taken : (x : X) → Unit {0} → Taken (Some x)
  some_taken x _ e = none-some x (sym e)

  -- where the first is never left, nothing is chosen only of nothing
  pub none_of_none : TakesFirst rule → (xs : List X) → chosen rule view xs ≡ None → xs ≡ []
  unfolding scan
  none_of_none first [] e = refl
  none_of_none first (x ∷ xs) e =
      absurd (scan_keeps Taken (λ _. Unit {0}) some_taken (shown_one rule view false rule.cleared None x) xs
      (kept_replied Taken (λ _. Unit {0}) some_taken (rule.reply rule.cleared (view x)) (rule.next rule.cleared (view x)) None x (λ said. absurd (first (view x) said)) tt)
      (all_unit xs) e)

  pub nothing_of_none : (xs : List X) → xs ≡ [] → chosen rule view xs ≡ None
  unfolding scan
  nothing_of_none xs e = ap (λ (ys : List X). chosen rule view ys) e

  -- what is taken of a list, where nothing was taken before, has what all of the list have
  pub scan_has : (P : X → Type 0) (s : Standing X) (xs : List X) (x : X) → s.taken ≡ None → AllByRecursion P xs → (scan rule view s xs).taken ≡ Some x → P x
  scan_has P s xs x none a e =
      scan_keeps (λ o. o ≡ Some x → P x) P (λ y p said. let same : y ≡ x = cc in subst P same p) s xs (λ said. absurd (none-some x (sym none ∙ said))) a e

  pub chosen_has : (P : X → Type 0) (xs : List X) (x : X) → AllByRecursion P xs → chosen rule view xs ≡ Some x → P x
  chosen_has P xs x a e = scan_has P (opening rule) xs x refl a e
