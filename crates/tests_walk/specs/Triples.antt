-- Three numbers that add up to a total, as keys.
use Rattle.std.specs.Prelude.{◌≡◌, ℕ, ◌+◌, ◌-◌, ◌<◌, Bool, false, ◌&&◌, List, [], ◌∷◌, ◌==◌, nat_lt, slice_index}
use Rattle.std.specs.List.{sum}
use Rattle.search.specs.declared.policy.Shown.{Shown}

-- three numbers, the first below 4,096 and the others below 64, with that total
abbrev pub Triple : ℕ → List ℕ → Type 0
Triple total [] = ⊥
Triple total (a ∷ []) = ⊥
Triple total (a ∷ b ∷ []) = ⊥
Triple total (a ∷ b ∷ c ∷ []) = (a < 4096) × ((b < 64) × ((c < 64) × (a + b + c ≡ total)))
Triple total (a ∷ b ∷ c ∷ d ∷ rest) = ⊥

-- the test for it
abbrev pub triple? : ℕ → List ℕ → Bool
triple? total [] = false
triple? total (a ∷ []) = false
triple? total (a ∷ b ∷ []) = false
triple? total (a ∷ b ∷ c ∷ []) = nat_lt a 4096 && (nat_lt b 64 && (nat_lt c 64 && a + b + c == total))
triple? total (a ∷ b ∷ c ∷ d ∷ rest) = false

-- the note is what the numbers leave of the total
abbrev pub Leaves : ℕ → List ℕ → ℕ → Type 0
Leaves total k note = note ≡ total - sum k

-- what a policy sees: the second number is what is saved
abbrev pub triple_view : List ℕ → Shown
triple_view k = record { saved = slice_index k 1; place = slice_index k 0; template = slice_index k 2 }
