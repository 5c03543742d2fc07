-- What a policy means, and what it singles out of a list that it is shown.
use Rattle.std.specs.Prelude.{ℕ, Bool, true, false, List, [], ◌∷◌, Some, None, Option, ◌≢◌}
use Rattle.search.specs.declared.policy.Shown.{Shown}
use Rattle.search.specs.declared.policy.Reply.{Reply}
use Rattle.search.specs.declared.policy.Reply.TheVariants.{Leave, Take, Close}

-- a policy, by the numbers that it keeps
pub record PolicyMeaning : Type 0 where
  -- what it keeps once it is cleared
  pub cleared : List ℕ
  -- what it says, by what it keeps, to what it is shown
  pub reply : List ℕ → Shown → Reply
  -- what it keeps then
  pub next : List ℕ → Shown → List ℕ

-- the first that it is shown after it was cleared, it never leaves
abbrev pub TakesFirst : PolicyMeaning → Type 0
TakesFirst rule = (s : Shown) → rule.reply rule.cleared s ≢ Leave

-- where a policy stands: whether it closed, the numbers that it keeps, and the last one taken
pub record Standing (X : Type 0) : Type 0 where
  pub closed : Bool
  pub kept : List ℕ
  pub taken : Option X

-- the standing of these three
abbrev pub standing : {X : Type 0} → Bool → List ℕ → Option X → Standing X
standing closed kept taken = record { closed = closed; kept = kept; taken = taken }

-- after a reply to x: what is kept now, and what was taken before x
abbrev pub replied : {X : Type 0} → Reply → List ℕ → Option X → X → Standing X
replied Leave kept taken x = standing false kept taken
replied Take kept taken x = standing false kept (Some x)
replied Close kept taken x = standing true kept (Some x)

-- x is shown, unless the policy closed; `view` says what it sees of x
abbrev pub shown_one : {X : Type 0} → PolicyMeaning → (X → Shown) → Bool → List ℕ → Option X → X → Standing X
shown_one rule view true kept taken x = standing true kept taken
shown_one rule view false kept taken x = replied (rule.reply kept (view x)) (rule.next kept (view x)) taken x

-- a list is shown in order, up to a close
unfoldable pub scan : {X : Type 0} → PolicyMeaning → (X → Shown) → Standing X → List X → Standing X
scan rule view s [] = s
scan rule view s (x ∷ xs) = scan rule view (shown_one rule view s.closed s.kept s.taken x) xs

-- a policy that was cleared and has taken nothing
abbrev pub opening : {X : Type 0} → PolicyMeaning → Standing X
opening rule = standing false rule.cleared None

-- the last one taken when the policy, cleared, is shown the list in order up to a close
abbrev pub chosen : {X : Type 0} → PolicyMeaning → (X → Shown) → List X → Option X
chosen rule view xs = (scan rule view (opening rule) xs).taken
