-- The test of a turn, step by step.
use Rattle.std.proofs.Common.{◌≡◌, ℕ, zero, suc, ◌+◌, ◌-◌, Bool, true, false, not, ◌&&◌, List, [], ◌∷◌, ◌++◌, map, reverse, length, get_or, take, drop, sym, refl, ap, ◌∙◌, ap₂, arith}
use mathlib.Core.List.{reverse-cons}
use Rattle.std.proofs.Math.Bool.{and_assoc}
use Rattle.std.proofs.lemmas.List.{at_drop_all, at_drop_more, take_rest}
use Rattle.std.specs.List.{list_all, enumerate_from}
use Rattle.gates.specs.declared.gate.Gate.{Gate}
use Rattle.gates.specs.Kinds.{KindMeaning}
use Rattle.workspace.specs.TemplateTests.{all_pass}
use Rattle.workspace.specs.Turns.{Placed, on_gate, placed_from, placed, directed}
use Rattle.workspace.specs.TurnTests.{has_number_lem, distinct}
use Rattle.workspace.specs.Posing.{directed_gate}

pass_map : {X Y : Type 0} (test : Y → Bool) (f : X → Y) (xs : List X) → all_pass test (map f xs) ≡ all_pass (λ x. test (f x)) xs
pass_map test f [] = refl
pass_map test f (x ∷ xs) = ap (λ (b : Bool). test (f x) && b) (pass_map test f xs)

pass_append : {X : Type 0} (test : X → Bool) (xs ys : List X) → all_pass test (xs ++ ys) ≡ (all_pass test xs && all_pass test ys)
pass_append test [] ys = refl
pass_append test (x ∷ xs) ys = ap (λ (b : Bool). test x && b) (pass_append test xs ys) ∙ sym (and_assoc (test x) (all_pass test xs) (all_pass test ys))

pass_reverse : {X : Type 0} (test : X → Bool) (xs : List X) → all_pass test (reverse xs) ≡ all_pass test xs
pass_reverse test [] = refl
pass_reverse test (x ∷ xs) =
    ap (all_pass test) (reverse-cons x xs) ∙ pass_append test (reverse xs) (x ∷ []) ∙ ap (λ (b : Bool). b && (test x && true)) (pass_reverse test xs) ∙ swap (all_pass test xs) (test x)
  where
    swap : (a b : Bool) → (a && (b && true)) ≡ (b && a)
    swap true true = refl
    swap true false = refl
    swap false true = refl
    swap false false = refl

pass_placed : (test : Gate → Bool) (p : ℕ) (gates : List Gate) → all_pass (λ (x : Placed). test x.gate) (placed_from p gates) ≡ all_pass test gates
pass_placed test p [] = refl
pass_placed test p (g ∷ gates) = ap (λ (b : Bool). test g && b) (pass_placed test (suc p) gates)

-- each gate is tried in its direction, in any order
pub pass_directed : (k : KindMeaning) (test : Gate → Bool) (back : Bool) (gates : List Gate)
    → all_pass (λ g. test (directed_gate k back g)) gates ≡ all_pass (λ (x : Placed). test x.gate) (directed k back (placed gates))
pass_directed k test false gates = sym (pass_placed test 0 gates)
pass_directed k test true gates =
    sym (pass_map (λ (x : Placed). test x.gate) (on_gate k.inverse) (reverse (placed gates))
    ∙ pass_reverse (λ (x : Placed). test (k.inverse x.gate)) (placed gates)
    ∙ pass_placed (λ g. test (k.inverse g)) 0 gates)

-- each line is looked for behind its place
module _ (table : List ℕ) where
  abbrev pub stands_once : ℕ × ℕ → Bool
  stands_once x = not (has_number_lem (take (length table - (x.0 + 1)) (drop (x.0 + 1) table)) x.1)

  once_from : (n d : ℕ) → d + n ≡ length table → list_all stands_once (enumerate_from d (drop d table)) ≡ distinct (drop d table)
  once_from zero d e =
      at_drop_all (λ (xs : List ℕ). list_all stands_once (enumerate_from d xs)) table d (omega arith) ∙ sym (at_drop_all distinct table d (omega arith))
  once_from (suc n) d e =
      at_drop_more (λ (xs : List ℕ). list_all stands_once (enumerate_from d xs)) table d 0 (omega arith)
      ∙ ap₂ (λ (xs : List ℕ) (b : Bool). not (has_number_lem xs (get_or table d 0)) && b) (take_rest table (d + 1)) (once_from n (d + 1) (omega arith))
      ∙ sym (at_drop_more distinct table d 0 (omega arith))

  pub distinct_is : list_all stands_once (enumerate_from 0 table) ≡ distinct table
  distinct_is = once_from (length table) 0 (omega arith)
