-- Keys, their order by rank, and the list of all keys of some property.
use Rattle.std.specs.Prelude.{◌≡◌, ℕ, ◌<◌, cond, ◌⊎◌, List, [], ◌∷◌, ◌++◌, length, Option, nat_lt}
use Rattle.std.specs.List.{AllByRecursion}
use Rattle.std.specs.Option.{option_map}
use Rattle.fixed_list.specs.Lists.{contents}
use Rattle.search.specs.declared.key.Key.{Key}

-- how many numbers a key can have
abbrev pub key_size : ℕ
key_size = 24

-- the numbers of a key are below this
abbrev pub number_limit : ℕ
number_limit = 65536

-- the numbers of a key in memory
abbrev pub keyed : Key → List ℕ
keyed key = contents key.numbers

-- the numbers of a key that there may be
abbrev pub held : Option Key → Option (List ℕ)
held = option_map keyed

-- the key with one number more; a full key stays as it is
abbrev pub with_number : List ℕ → ℕ → List ℕ
with_number k v = cond (nat_lt (length k) key_size) (k ++ v ∷ []) k

-- rank, the lexicographic order: j comes before k
abbrev pub Before : List ℕ → List ℕ → Type 0
Before [] [] = ⊥
Before [] (y ∷ ys) = Unit {0}
Before (x ∷ xs) [] = ⊥
Before (x ∷ xs) (y ∷ ys) = (x < y) ⊎ ((x ≡ y) × Before xs ys)

-- strictly ascending: each key comes before all that follow it
abbrev pub Ascending : List (List ℕ) → Type 0
Ascending [] = Unit {0}
Ascending (k ∷ ks) = AllByRecursion (Before k) ks × Ascending ks

-- the key is in the list
abbrev pub In : List ℕ → List (List ℕ) → Type 0
In k [] = ⊥
In k (j ∷ js) = (k ≡ j) ⊎ In k js

-- the key begins with the prefix
abbrev pub Begins : List ℕ → List ℕ → Type 0
Begins prefix k = (rest : List ℕ) × (k ≡ prefix ++ rest)

-- the list holds exactly the keys with that prefix that satisfy P, in rank order
pub record ShownIn (P : List ℕ → Type 0) (prefix : List ℕ) (os : List (List ℕ)) : Type 0 where
  pub ascending : Ascending os
  pub each : (k : List ℕ) → In k os → Begins prefix k × P k
  pub all : (k : List ℕ) → Begins prefix k → P k → In k os
