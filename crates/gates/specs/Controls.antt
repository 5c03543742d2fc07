-- The two sets of control lines of a gate, positive p and negative q, for every kind alike.
use Rattle.std.specs.Prelude.{ℕ, suc, ◌^◌, Bool, true, false, cond, not, ◌&&◌, ◌||◌, List, [], ◌∷◌, ◌==◌, nat_le, nat_lt}
use Rattle.gates.specs.declared.gate.Gate.{Gate}
use Rattle.gates.specs.declared.gate.Sign.{Sign}
use Rattle.gates.specs.declared.gate.Sign.TheVariants.{Positive, Negative}
use Rattle.gates.specs.Lines.{State, width, bit, where_below, every_below}

-- line i is a control, of either sign
abbrev pub control : ℕ → ℕ → ℕ → Bool
control p q i = bit p i || bit q i

-- line i is a control of the gate
abbrev pub reads : Gate → ℕ → Bool
reads g i = control g.positive g.negative i

-- a line of value v is as it has to be, where p and q say whether it is a positive and a negative control
abbrev pub allows : Bool → Bool → Bool → Bool
allows p q v = cond p v true && cond q (not v) true

-- all positive controls are 1 and all negative ones are 0
unfoldable pub controls_hold : ℕ → ℕ → State → Bool
controls_hold p q s = every_below width (λ i. allows (bit p i) (bit q i) (s i))

-- no line is in both sets
unfoldable pub apart : ℕ → ℕ → Bool
apart p q = every_below width (λ i. not (bit p i && bit q i))

-- sets of lines below n, of which there are at most as many as a set can have, and no line in both
unfoldable pub controls_form : ℕ → ℕ → ℕ → Bool
controls_form n p q = nat_le n width && (nat_lt p (2 ^ n) && (nat_lt q (2 ^ n) && apart p q))

-- line j is the new line of one that P holds of; entry i of the table is the new line of line i
abbrev pub image : List ℕ → (ℕ → Bool) → ℕ → Bool
image [] P j = false
image (x ∷ table) P j = (x == j && P 0) || image table (λ i. P (suc i)) j

-- the new lines of a set's lines
abbrev pub renamed_set : List ℕ → ℕ → ℕ
renamed_set table set = where_below width (image table (bit set))

-- the lines of the set outside f, and those of the other set in f
abbrev pub exchanged : ℕ → ℕ → ℕ → ℕ
exchanged f set other = where_below width (λ i. cond (bit f i) (bit other i) (bit set i))

-- the set with line l
abbrev pub with_member : ℕ → ℕ → ℕ
with_member l set = where_below width (λ i. (i == l) || bit set i)

-- the value that a line must have for a control of this sign to hold
abbrev pub wanted : Sign → Bool
wanted Positive = true
wanted Negative = false

-- the positive controls after line l was added as a control
abbrev pub more_positive : ℕ → Sign → ℕ → ℕ
more_positive l Positive p = with_member l p
more_positive l Negative p = p

-- the negative controls after line l was added as a control
abbrev pub more_negative : ℕ → Sign → ℕ → ℕ
more_negative l Positive q = q
more_negative l Negative q = with_member l q

-- the gate with these lines and these controls
abbrev pub gate : ℕ → ℕ → ℕ → ℕ → Gate
gate a b p q = record { a = a; b = b; positive = p; negative = q }

-- the gate with the sign of its controls on the lines of f inverted
abbrev pub with_flipped_controls_lem : ℕ → Gate → Gate
with_flipped_controls_lem f g = gate g.a g.b (exchanged f g.positive g.negative) (exchanged f g.negative g.positive)

-- the gate with its controls on their new lines
abbrev pub with_renamed_controls_lem : List ℕ → Gate → Gate
with_renamed_controls_lem table g = gate g.a g.b (renamed_set table g.positive) (renamed_set table g.negative)

-- the gate with one more control, on line l
abbrev pub with_control_lem : ℕ → Sign → Gate → Gate
with_control_lem l sign g = gate g.a g.b (more_positive l sign g.positive) (more_negative l sign g.negative)
