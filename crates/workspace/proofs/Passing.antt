-- Chosen gates that move to the front, gate by gate.
use Rattle.std.proofs.Common.{◌≡◌, ℕ, zero, suc, ◌+◌, ◌<◌, Bool, true, false, cond, not, ◌&&◌, ◌||◌, List, [], ◌∷◌, ◌++◌, length, get_or, take, drop, sym, refl, ap, ◌∙◌, ap₂, arith}
use mathlib.Core.Path.{fun_ext}
use Rattle.std.specs.List.{list_all, enumerate_from}
use Rattle.std.proofs.lemmas.List.{length-take, take_more, at_drop_all, at_drop_more}
use Rattle.gates.specs.declared.gate.Gate.{Gate}
use Rattle.gates.specs.Kinds.{KindMeaning}
use Rattle.gates.specs.Cascades.{picked}
use Rattle.workspace.specs.Occurrences.{passes, moves_front}
use Rattle.workspace.proofs.Poses.{no_gate}
use Rattle.workspace.proofs.Stepping.{from_start}

-- the gates at places that are not chosen
abbrev pub unchosen : (ℕ → Bool) → List Gate → List Gate
unchosen c gates = picked (λ i. not (c i)) gates

-- a gate passes the unchosen gates of a list, whose places count from n
pub passes_is : (k : KindMeaning) (c : ℕ → Bool) (g : Gate) (n : ℕ) (gates : List Gate)
    → list_all (λ (x : ℕ × Gate). c x.0 || k.free x.1 g) (enumerate_from n gates) ≡ passes k (picked (λ i. not (c (n + i))) gates) g
passes_is k c g n [] = refl
passes_is k c g n (u ∷ gates) =
    ap (λ (b : Bool). (c n || k.free u g) && b) (passes_is k c g (n + 1) gates)
    ∙ at (c n)
    ∙ ap₂ (λ (m : ℕ) (d : ℕ → Bool). passes k (cond (not (c m)) (u ∷ picked d gates) (picked d gates)) g)
    (let e : n ≡ n + 0 = omega arith in e) (fun_ext λ i. ap (λ (m : ℕ). not (c m)) (let e : n + 1 + i ≡ n + suc i = omega arith in e))
  where
    at : (b : Bool) → ((b || k.free u g) && passes k (picked (λ i. not (c (n + 1 + i))) gates) g) ≡ passes k (cond (not b) (u ∷ picked (λ i. not (c (n + 1 + i))) gates) (picked (λ i. not (c (n + 1 + i))) gates)) g
    at true = refl
    at false = refl

picked_push : (c : ℕ → Bool) (xs : List Gate) (g : Gate) → picked c (xs ++ g ∷ []) ≡ cond (c (length xs)) (picked c xs ++ g ∷ []) (picked c xs)
picked_push c [] g = refl
picked_push c (x ∷ xs) g =
    ap (λ (r : List Gate). cond (c 0) (x ∷ r) r) (picked_push (λ i. c (suc i)) xs g)
    ∙ at (c 0) (c (suc (length xs))) (picked (λ i. c (suc i)) xs)
  where
    at : (a b : Bool) (ys : List Gate) → cond a (x ∷ cond b (ys ++ g ∷ []) ys) (cond b (ys ++ g ∷ []) ys) ≡ cond b (cond a (x ∷ ys) ys ++ g ∷ []) (cond a (x ∷ ys) ys)
    at true true ys = refl
    at true false ys = refl
    at false true ys = refl
    at false false ys = refl

module _ (k : KindMeaning) (c : ℕ → Bool) (gates : List Gate) where
  -- what is left to move from place d on
  abbrev left : ℕ → Bool
  left d = moves_front k (λ i. c (d + i)) (unchosen c (take d gates)) (drop d gates)

  left_none : left 0 ≡ moves_front k c [] gates
  left_none = ap (λ (e : ℕ → Bool). moves_front k e [] gates) (from_start c)

  unchosen_more : (d : ℕ) → d < length gates → unchosen c (take (d + 1) gates) ≡ cond (not (c d)) (unchosen c (take d gates) ++ get_or gates d no_gate ∷ []) (unchosen c (take d gates))
  unchosen_more d lt =
      let long : length (take d gates) ≡ d = omega (arith, length-take d gates) in
      ap (unchosen c) (take_more gates d no_gate lt)
      ∙ picked_push (λ i. not (c i)) (take d gates) (get_or gates d no_gate)
      ∙ ap (λ (n : ℕ). cond (not (c n)) (unchosen c (take d gates) ++ get_or gates d no_gate ∷ []) (unchosen c (take d gates))) long

  left_next : (d : ℕ) → d < length gates → left d ≡ ((not (c d) || passes k (unchosen c (take d gates)) (get_or gates d no_gate)) && left (d + 1))
  left_next d lt =
      let g = get_or gates d no_gate in
      let before = unchosen c (take d gates) in
      at_drop_more (moves_front k (λ i. c (d + i)) before) gates d no_gate lt
      ∙ ap₂ (λ (x : ℕ) (e : ℕ → Bool). cond (c x) (passes k before g && moves_front k e before (drop (d + 1) gates)) (moves_front k e (before ++ g ∷ []) (drop (d + 1) gates)))
      (let e : d + 0 ≡ d = omega arith in e) (fun_ext λ j. ap c (let e : d + suc j ≡ d + 1 + j = omega arith in e))
      ∙ at (c d) before
      ∙ ap (λ (xs : List Gate). (not (c d) || passes k before g) && moves_front k (λ i. c (d + 1 + i)) xs (drop (d + 1) gates)) (sym (unchosen_more d lt))
    where
      at : (b : Bool) (before : List Gate)
          → cond b (passes k before (get_or gates d no_gate) && moves_front k (λ i. c (d + 1 + i)) before (drop (d + 1) gates)) (moves_front k (λ i. c (d + 1 + i)) (before ++ get_or gates d no_gate ∷ []) (drop (d + 1) gates))
          ≡ ((not b || passes k before (get_or gates d no_gate)) && moves_front k (λ i. c (d + 1 + i)) (cond (not b) (before ++ get_or gates d no_gate ∷ []) before) (drop (d + 1) gates))
      at true before = refl
      at false before = refl

  -- each gate is tried at its distance
  abbrev pub moves_at : ℕ × Gate → Bool
  moves_at x = not (c x.0) || passes k (unchosen c (take x.0 gates)) x.1

  left_all : (n d : ℕ) → d + n ≡ length gates → list_all moves_at (enumerate_from d (drop d gates)) ≡ left d
  left_all zero d e =
      at_drop_all (λ (xs : List Gate). list_all moves_at (enumerate_from d xs)) gates d (omega arith)
      ∙ sym (at_drop_all (moves_front k (λ i. c (d + i)) (unchosen c (take d gates))) gates d (omega arith))
  left_all (suc n) d e =
      at_drop_more (λ (xs : List Gate). list_all moves_at (enumerate_from d xs)) gates d no_gate (omega arith)
      ∙ ap (λ (b : Bool). moves_at (d, get_or gates d no_gate) && b) (left_all n (d + 1) (omega arith))
      ∙ sym (left_next d (omega arith))

  pub moves_are : list_all moves_at (enumerate_from 0 gates) ≡ moves_front k c [] gates
  moves_are = left_all (length gates) 0 (omega arith) ∙ left_none

-- places count only as far as there are gates
pub moves_same : (k : KindMeaning) (c d : ℕ → Bool) (passed gates : List Gate) → ((i : ℕ) → i < length gates → c i ≡ d i) → moves_front k c passed gates ≡ moves_front k d passed gates
moves_same k c d passed [] h = refl
moves_same k c d passed (g ∷ gates) h =
    ap (λ (b : Bool). cond b (passes k passed g && moves_front k (λ i. c (suc i)) passed gates) (moves_front k (λ i. c (suc i)) (passed ++ g ∷ []) gates)) (h 0 (omega arith))
    ∙ ap₂ (λ (u v : Bool). cond (d 0) (passes k passed g && u) v)
    (moves_same k (λ i. c (suc i)) (λ i. d (suc i)) passed gates (λ i lt. h (suc i) (omega arith)))
    (moves_same k (λ i. c (suc i)) (λ i. d (suc i)) (passed ++ g ∷ []) gates (λ i lt. h (suc i) (omega arith)))
