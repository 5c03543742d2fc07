-- What a line asks for, step by step.
use Rattle.std.proofs.Common.{◌≡◌, ℕ, zero, suc, ◌+◌, ◌-◌, ◌<◌, ◌≤◌, Bool, true, false, cond, ◌&&◌, ◌||◌, List, [], ◌∷◌, length, get_or, Some, None, Option, refl, ap, ◌∙◌, arith}
use mathlib.Core.Bool.{beq}
use denote.Ref.{Bor}
use Rattle.std.specs.List.{list_any, list_all, find, range_with_len}
use Rattle.std.specs.Option.{MatchOption, SomeIff}
use Rattle.std.specs.Slice.{IsItemAt}
use Rattle.gates.specs.Controls.{reads}
use Rattle.gates.specs.declared.gate.Sign.{Sign}
use Rattle.gates.specs.declared.gate.Sign.TheVariants.{Positive, Negative}
use Rattle.gates.specs.Lines.{bit}
use Rattle.workspace.specs.declared.posed.Member.{Member}
use Rattle.workspace.specs.Turns.{in_listed, member}
use Rattle.workspace.specs.Occurrences.{some_has_lem, fits_group, lowest}
use Rattle.workspace.specs.Occurrences.Asked.{control_on}
use Rattle.workspace.specs.Posing.{placed_of}
use Rattle.workspace.specs.Extensions.{found_as, signed}

-- the listed group of a number from 1 on, as a set
listed_at : (groups : List ℕ) (i p : ℕ) → i < length groups → bit (get_or groups i 0) p ≡ in_listed groups i p
listed_at [] i p lt = absurd (let z : ⊥ = omega arith in z)
listed_at (g ∷ groups) zero p lt = refl
listed_at (g ∷ groups) (suc i) p lt = listed_at groups i p (omega arith)

listed_past : (groups : List ℕ) (i p : ℕ) → length groups ≤ i → false ≡ in_listed groups i p
listed_past [] i p le = refl
listed_past (g ∷ groups) zero p le = absurd (let z : ⊥ = omega arith in z)
listed_past (g ∷ groups) (suc i) p le = listed_past groups i p (omega arith)

-- the position is in the listed group that is found
pub listed_is : (groups : List ℕ) (i p : ℕ) (r : Option (Bor ℕ)) (b : Bool) (Q : Bor ℕ → Type 0) → IsItemAt groups i r → ((x : Bor ℕ) → Q x → b ≡ bit x.now p) → MatchOption r (b ≡ false) Q
    → b ≡ in_listed groups i p
listed_is groups i p None b Q at each is = is ∙ listed_past groups i p at.3
listed_is groups i p (Some x) b Q at each is = each x is ∙ ap (λ (g : ℕ). bit g p) (at.4 (omega arith) 0) ∙ listed_at groups i p at.3.0

-- the position is in the group of a number where it is in the listed one before, if there is one
pub member_is : (groups : List ℕ) (n p : ℕ) (r : Option ℕ) (b : Bool) (Q : ℕ → Type 0) → SomeIff r (1 ≤ n) (n - 1) → ((i : ℕ) → Q i → b ≡ in_listed groups i p) → MatchOption r (b ≡ true) Q
    → b ≡ member groups n p
member_is groups zero p None b Q less each is = is
member_is groups (suc n) p None b Q less each is = absurd (less (omega arith))
member_is groups zero p (Some i) b Q less each is = absurd (let z : ⊥ = omega (arith, less.0) in z)
member_is groups (suc n) p (Some i) b Q less each is = each i is ∙ ap (λ (j : ℕ). in_listed groups j p) (let e : i ≡ n = omega (arith, less.1) in e)

-- some gate of a list has the control
pub some_is : (sign : Sign) (l : ℕ) (ms : List Member) → list_any (λ (m : Member). signed sign m.gate l) ms ≡ some_has_lem sign (placed_of ms) l
some_is sign l [] = refl
some_is Positive l (m ∷ ms) = ap (λ (b : Bool). bit m.gate.positive l || b) (some_is Positive l ms)
some_is Negative l (m ∷ ms) = ap (λ (b : Bool). bit m.gate.negative l || b) (some_is Negative l ms)

-- a group fits a list of members
pub fits_is : (groups : List ℕ) (l j : ℕ) (ms : List Member) → list_all (λ (m : Member). beq (member groups j m.position) (reads m.gate l)) ms ≡ fits_group groups (placed_of ms) l j
fits_is groups l j [] = refl
fits_is groups l j (m ∷ ms) = ap (λ (b : Bool). beq (member groups j m.position) (reads m.gate l) && b) (fits_is groups l j ms)

-- the lowest group that fits, from number j on
pub lowest_is : (fits : ℕ → Bool) (sign : Sign) (j few : ℕ) → found_as sign (find fits (range_with_len j few)) ≡ lowest fits sign j few
lowest_is fits sign j zero = refl
lowest_is fits sign j (suc few) =
    at (fits j)
    ∙ ap (cond (fits j) (control_on sign j)) (lowest_is fits sign (j + 1) few ∙ ap (λ (i : ℕ). lowest fits sign i few) (let e : j + 1 ≡ suc j = omega arith in e))
  where
    at : (b : Bool) → found_as sign (cond b (Some j) (find fits (range_with_len (j + 1) few))) ≡ cond b (control_on sign j) (found_as sign (find fits (range_with_len (j + 1) few)))
    at true = refl
    at false = refl
