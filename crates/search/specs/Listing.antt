-- The list of all keys that pass a test, what a search for them may rely on, and what it answers.
use Rattle.std.specs.Prelude.{◌≡◌, ℕ, zero, suc, ◌-◌, ◌<◌, ◌≤◌, Bool, true, false, cond, List, [], ◌∷◌, ◌++◌, length, Some, None, Option, ◌≢◌, slice_index}
use Rattle.std.specs.List.{AllByRecursion}
use Rattle.std.specs.Option.{option_map}
use Rattle.gates.specs.Lines.{bit}
use Rattle.search.specs.declared.key.Key.{Key}
use Rattle.search.specs.declared.policy.Shown.{Shown}
use Rattle.search.specs.declared.walk.Found.{Found}
use Rattle.search.specs.Keys.{key_size, number_limit, keyed, ShownIn}
use Rattle.search.specs.Policy.{PolicyMeaning, Standing, scan, opening, chosen}

-- what passes the test has 1 to `most` numbers, each below `limit`
pub record FitsKey (test : List ℕ → Bool) (most limit : ℕ) : Type 0 where
  pub some : test [] ≡ false
  pub short : (k : List ℕ) → test k ≡ true → length k ≤ most
  pub small : (k : List ℕ) → test k ≡ true → AllByRecursion (λ v. v < limit) k

-- the key passes the test
abbrev pub Passes : (List ℕ → Bool) → List ℕ → Type 0
Passes test k = test k ≡ true

-- each key that satisfies P has its first number from `low` on
abbrev pub StartsFrom : (List ℕ → Type 0) → ℕ → Type 0
StartsFrom P low = (v : ℕ) (rest : List ℕ) → P (v ∷ rest) → low ≤ v

-- each key that passes has its first number below `high`
abbrev pub StartsBelow : (List ℕ → Bool) → ℕ → Type 0
StartsBelow test high = (v : ℕ) (rest : List ℕ) → test (v ∷ rest) ≡ true → v < high

-- each longer key with this prefix that passes has its next number in the set
abbrev pub Covers : (List ℕ → Bool) → List ℕ → ℕ → Type 0
Covers test prefix set = (v : ℕ) (rest : List ℕ) → test (prefix ++ v ∷ rest) ≡ true → bit set v ≡ true

-- whether a prefix is a whole key: if so, no longer one passes; if not, it does not pass itself
abbrev pub Whole : (List ℕ → Bool) → List ℕ → Bool → Type 0
Whole test prefix true = (v : ℕ) (rest : List ℕ) → test (prefix ++ v ∷ rest) ≢ true
Whole test prefix false = test prefix ≡ false

-- what a step of the search may rely on: what is searched is sound, the key has a number, and two notes are right, one of its first number and one of all its numbers
pub record Fits {X Y : Type 0} (Sound : Type 0) (started : ℕ → X → Type 0) (noted : List ℕ → Y → Type 0) (k : List ℕ) (start : X) (note : Y) : Type 0 where
  pub sound : Sound
  pub some : 0 < length k
  pub first : started (slice_index k 0) start
  pub whole : noted k note

-- the same of a key in memory, where what is searched is q
abbrev pub FitsAt : {Q X Y : Type 0} → (Q → Type 0) → (Q → ℕ → X → Type 0) → (Q → List ℕ → Y → Type 0) → Q → Key → X → Y → Type 0
FitsAt sound started noted q key start note = Fits (sound q) (started q) (noted q) (keyed key) start note

-- a note is right for a key of one number more than one of which the note above is right
abbrev pub NotedNext : {X Y : Type 0} → Type 0 → (ℕ → X → Type 0) → (List ℕ → Y → Type 0) → List ℕ → X → Y → Y → Type 0
NotedNext Sound started noted k start above note =
    Sound → (prefix : List ℕ) (v : ℕ) → k ≡ prefix ++ v ∷ [] → started (slice_index k 0) start → noted prefix above → noted k note

-- f 0, f 1, .. f (n - 1), one after another
unfoldable pub row : ℕ → (ℕ → List (List ℕ)) → List (List ℕ)
row zero f = []
row (suc n) f = row n f ++ f n

-- the prefix, if it passes
unfoldable pub alone : (List ℕ → Bool) → List ℕ → List (List ℕ)
alone test prefix = cond (test prefix) (prefix ∷ []) []

-- the keys that pass, up to `left` numbers longer than the prefix, each of these below `limit`
unfoldable pub listed : (List ℕ → Bool) → ℕ → ℕ → List ℕ → List (List ℕ)
listed test limit zero prefix = alone test prefix
listed test limit (suc left) prefix = alone test prefix ++ row limit (λ v. listed test limit left (prefix ++ v ∷ []))

-- what comes of showing a policy, from where it stands, all keys with the prefix that pass
abbrev pub shown_under : PolicyMeaning → (List ℕ → Shown) → (List ℕ → Bool) → List ℕ → Standing (List ℕ) → Standing (List ℕ)
shown_under rule view test prefix before = scan rule view before (listed test number_limit (key_size - length prefix) prefix)

-- the least first number of the keys that satisfy P
pub record Lowest (P : List ℕ → Type 0) (low : ℕ) : Type 0 where
  pub below : StartsFrom P low
  pub rest : List ℕ
  pub there : P (low ∷ rest)

-- what a search leaves that began with the policy cleared: the key taken, what the policy keeps, and where the first key was found
pub record Searched (test : List ℕ → Bool) (view : List ℕ → Shown) (rule : PolicyMeaning) (taken : Option (List ℕ)) (kept : List ℕ) (lowest : ℕ) : Type 0 where
  pub takes : taken ≡ chosen rule view (listed test number_limit key_size [])
  pub keeps : kept ≡ (scan rule view (opening rule) (listed test number_limit key_size [])).kept
  pub low : (k : List ℕ) → taken ≡ Some k → Lowest (Passes test) lowest

-- the answer of a search, and what the policy keeps then
pub record Chosen (Occurs : List ℕ → Type 0) (view : List ℕ → Shown) (rule : PolicyMeaning) (answer : Option (List ℕ)) (kept : List ℕ) : Type 0 where
  -- there is one list of all that occurs, in rank order
  pub os : List (List ℕ)
  pub shown : ShownIn Occurs [] os
  pub only : (other : List (List ℕ)) → ShownIn Occurs [] other → other ≡ os
  -- the answer is what the policy singles out of it
  pub singled : answer ≡ chosen rule view os
  pub keeps : kept ≡ (scan rule view (opening rule) os).kept
  -- it is none exactly where nothing occurs, and else it occurs
  pub none : answer ≡ None → os ≡ []
  pub nothing : os ≡ [] → answer ≡ None
  pub occurs : (k : List ℕ) → answer ≡ Some k → Occurs k

-- the numbers of the key that was found, if one was
abbrev pub found_key : Option Found → Option (List ℕ)
found_key = option_map (λ found. keyed found.key)

-- with what was found comes the least first number of the keys that satisfy P
abbrev pub FoundLowest : (List ℕ → Type 0) → Option Found → Type 0
FoundLowest P None = Unit {0}
FoundLowest P (Some found) = Lowest P found.lowest
