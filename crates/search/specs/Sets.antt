-- Sets of numbers below 64: number i is in the set where the bit of weight 2 ^ i is 1.
use Rattle.std.specs.Prelude.{ℕ, zero, suc, cond, List, [], ◌∷◌, ◌++◌}
use Rattle.gates.specs.Lines.{bit}

-- the numbers of the set below n, in rising order
unfoldable pub numbers_under : ℕ → ℕ → List ℕ
numbers_under set zero = []
numbers_under set (suc n) = numbers_under set n ++ cond (bit set n) (n ∷ []) []

-- the numbers of the set, in rising order
abbrev pub numbers_in : ℕ → List ℕ
numbers_in set = numbers_under set 64
