-- Lines, sets of lines and states. Lines count from 0.
use Rattle.std.specs.Prelude.{◌≡◌, ℕ, zero, suc, ◌+◌, ◌*◌, ◌/◌, ◌%◌, ◌^◌, ◌<◌, ◌≤◌, Bool, true, false, cond, not, ◌&&◌, List, [], ◌∷◌, map, length, ◌==◌, ◌≢◌, nat_lt, slice_index, slice_index_or}
use Rattle.std.specs.List.{AllByRecursion}

-- how many lines a set of lines, or a state in memory, can speak of; no cascade has more
abbrev pub width : ℕ
width = 32

-- a state: each line's value
abbrev pub State : Type 0
State = ℕ → Bool

-- whether the digit of weight 2 ^ i of the number is 1: line i is in the set, or is 1 in the state, that the number stands for
unfoldable pub bit : ℕ → ℕ → Bool
bit number i = number / 2 ^ i % 2 == 1

-- the set of those i below n of which P holds
unfoldable pub where_below : ℕ → (ℕ → Bool) → ℕ
where_below zero P = 0
where_below (suc n) P = where_below n (λ i. P (suc i)) * 2 + cond (P 0) 1 0

-- P holds of each number below n
unfoldable pub every_below : ℕ → (ℕ → Bool) → Bool
every_below zero P = true
every_below (suc n) P = P n && every_below n P

-- the state s with the value v on line l
abbrev pub with_line_lem : State → ℕ → Bool → State
with_line_lem s l v i = cond (i == l) v (s i)

-- s on the lines below n, u from line n on
abbrev pub upto : ℕ → State → State → State
upto n s u i = cond (nat_lt i n) (s i) (u i)

-- the value v, inverted where b holds
abbrev pub inverted_if : Bool → Bool → Bool
inverted_if b v = cond b (not v) v

-- the state s with the lines of the set inverted
abbrev pub inverted : ℕ → State → State
inverted set s i = inverted_if (bit set i) (s i)

-- what the lines that a table names hold in s, as a state of lines 0, 1, ..; 0 behind the table's end
abbrev pub through : List ℕ → State → State
through table s i = slice_index_or (map s table) i false

-- line j stands nowhere in the table
abbrev pub Outside : List ℕ → ℕ → Type 0
Outside table j = AllByRecursion (λ x. x ≢ j) table

-- a line table: entry i is the new line of line i; l lines go to different ones of n lines
pub record Table (l n : ℕ) (table : List ℕ) : Type 0 where
  pub few : n ≤ width
  pub long : length table ≡ l
  pub below : AllByRecursion (λ x. x < n) table
  pub different : (i j : ℕ) → i < l → j < l → slice_index table i ≡ slice_index table j → i ≡ j

-- the numbers from i on, as many as given
abbrev pub counted : ℕ → ℕ → List ℕ
counted i zero = []
counted i (suc few) = i ∷ counted (suc i) few

-- the table of n lines that leaves every line where it is
abbrev pub unmoved : ℕ → List ℕ
unmoved n = counted 0 n
