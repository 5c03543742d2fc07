-- A level of the search: the keys under each next number are shown in turn.
use Rattle.std.proofs.Common.{◌≡◌, ℕ, zero, suc, ◌+◌, ◌<◌, ◌≤◌, Bool, true, false, List, [], ◌∷◌, ◌++◌, Some, None, Option, sym, refl, ap, ◌∙◌, ⊎_elim, arith}
use Rattle.std.specs.Bool.{then_some}
use Rattle.std.proofs.lemmas.Option.{none-some}
use Rattle.std.proofs.lemmas.Bool.{cases_lt}
use Rattle.search.specs.declared.policy.Shown.{Shown}
use Rattle.search.specs.declared.policy.Reply.{Reply}
use Rattle.search.specs.Policy.{PolicyMeaning, Standing, standing, replied, scan}
use Rattle.search.specs.Listing.{row, alone, listed, shown_under}
use Rattle.search.proofs.Scans.{scan_append, scan_after_close, scan_nil, scan_one}
use Rattle.search.proofs.Rows.{row_nil, row_more, alone_none, alone_some, level, level_skip, listed_open}

-- where something is shown of a key, it passes the test
passes_shown : (t : Bool) (v s : Shown) → Some s ≡ then_some t v → (t ≡ true) × (s ≡ v)
passes_shown true v s e = (refl, cc)
passes_shown false v s e = absurd (none-some s (sym e))

fails_unshown : (t : Bool) (v : Shown) → None ≡ then_some t v → t ≡ false
fails_unshown true v e = cc
fails_unshown false v e = refl

-- a whole key, where the policy has not closed: it fails the test, or it is shown
module _ (rule : PolicyMeaning) (view : List ℕ → Shown) (test : List ℕ → Bool) (k : List ℕ) (kept : List ℕ) (taken : Option (List ℕ)) where
  pub visit_none : None ≡ then_some (test k) (view k) → standing false kept taken ≡ scan rule view (standing false kept taken) (alone test k)
  visit_none e = sym (ap (scan rule view _) (alone_none test k (fails_unshown (test k) (view k) e)) ∙ scan_nil rule view _)

  pub visit_one : (r : Reply) (shown : Shown) (after : List ℕ) → Some shown ≡ then_some (test k) (view k) → r ≡ rule.reply kept shown → after ≡ rule.next kept shown
      → replied r after taken k ≡ scan rule view (standing false kept taken) (alone test k)
  visit_one r shown after e said keeps =
      let passes = passes_shown (test k) (view k) shown e in
      scan_one rule view kept taken k r shown after passes.1 said keeps ∙ ap (scan rule view (standing false kept taken)) (sym (alone_some test k passes.0))

-- once the policy closed, what follows changes nothing
closed_row : (rule : PolicyMeaning) (view : List ℕ → Shown) (f : ℕ → List (List ℕ)) (s now : Standing (List ℕ)) (a b : ℕ) → a ≤ b → now.closed ≡ true
    → now ≡ scan rule view s (row a f) → now ≡ scan rule view s (row b f)
unfolding row
closed_row rule view f s now a zero l closed e = let same : a ≡ 0 = omega arith in e ∙ ap (λ (i : ℕ). scan rule view s (row i f)) same
closed_row rule view f s now a (suc b) l closed e =
    ⊎_elim
    (λ (h : b < a). let same : a ≡ suc b = omega arith in e ∙ ap (λ (i : ℕ). scan rule view s (row i f)) same)
    (λ (h : a ≤ b).
    scan_after_close rule view now (f b) closed
    ∙ ap (λ (x : Standing (List ℕ)). scan rule view x (f b)) (closed_row rule view f s now a b h closed e)
    ∙ sym (scan_append rule view s (row b f) (f b)))
    (cases_lt b a)

module _ (rule : PolicyMeaning) (view : List ℕ → Shown) (test : List ℕ → Bool) (limit left : ℕ) (prefix : List ℕ) (before : Standing (List ℕ)) where
  -- where the policy stands once the keys under all next numbers below `base` were shown
  abbrev pub Seen : ℕ → Standing (List ℕ) → Type 0
  Seen base now = now ≡ scan rule view before (level test limit left base prefix)

  -- no key that passes has the number v next
  abbrev Without : ℕ → Type 0
  Without v = (rest : List ℕ) → test (prefix ++ v ∷ rest) ≡ true → ⊥

  pub seen_start : Seen 0 before
  seen_start = sym (ap (scan rule view before) (row_nil _) ∙ scan_nil rule view before)

  pub seen_skip : (base later : ℕ) (now : Standing (List ℕ)) → base ≤ later → ((v : ℕ) → base ≤ v → v < later → Without v) → Seen base now → Seen later now
  seen_skip base later now l without seen = seen ∙ ap (scan rule view before) (sym (level_skip test limit left base later prefix l without))

  -- all next numbers are done, of a prefix that does not pass itself
  module _ (d : ℕ) (open' : test prefix ≡ false) (deep : suc left ≡ d) where
    seen_all : (now : Standing (List ℕ)) → Seen limit now → now ≡ scan rule view before (listed test limit d prefix)
    seen_all now seen = seen ∙ ap (scan rule view before) (listed_open test limit left prefix open') ∙ ap (λ (j : ℕ). scan rule view before (listed test limit j prefix)) deep

    pub seen_done : (base : ℕ) (now : Standing (List ℕ)) → base ≤ limit → ((v : ℕ) → base ≤ v → v < limit → Without v) → Seen base now → now ≡ scan rule view before (listed test limit d prefix)
    seen_done base now l without seen = seen_all now (seen_skip base limit now l without seen)

    -- a close ends it
    pub seen_closed : (base : ℕ) (now : Standing (List ℕ)) → base ≤ limit → now.closed ≡ true → Seen base now → now ≡ scan rule view before (listed test limit d prefix)
    seen_closed base now l closed seen = seen_all now (closed_row rule view (λ v. listed test limit left (prefix ++ v ∷ [])) before now base limit l closed seen)

  -- the keys that begin with the prefix and the number `base` were shown
  pub seen_more : (base : ℕ) (now : Standing (List ℕ)) → Seen base now → (k : List ℕ) → k ≡ prefix ++ base ∷ [] → (d : ℕ) → d ≡ left
      → (after : Standing (List ℕ)) → after ≡ scan rule view now (listed test limit d k) → Seen (base + 1) after
  seen_more base now seen k put d less after e =
      e ∙ ap (λ (j : ℕ). scan rule view now (listed test limit j k)) less ∙ ap (λ (x : List ℕ). scan rule view now (listed test limit left x)) put
      ∙ ap (λ (s : Standing (List ℕ)). scan rule view s (listed test limit left (prefix ++ base ∷ []))) seen
      ∙ sym (ap (scan rule view before) (row_more (λ v. listed test limit left (prefix ++ v ∷ [])) base) ∙ scan_append rule view before _ _)

-- problems that are one are searched alike
pub shown_same : {Q : Type 0} (rule : PolicyMeaning) (view : Q → List ℕ → Shown) (test : Q → List ℕ → Bool) (q q' : Q) (k : List ℕ) (now after : Standing (List ℕ)) → q' ≡ q
    → after ≡ shown_under rule (view q') (test q') k now → after ≡ shown_under rule (view q) (test q) k now
shown_same {Q} rule view test q q' k now after same e = e ∙ ap (λ (u : Q). shown_under rule (view u) (test u) k now) same
