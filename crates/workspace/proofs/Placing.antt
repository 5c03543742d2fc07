-- Gates that keep their positions while their list is turned.
use Rattle.std.proofs.Common.{◌≡◌, ℕ, suc, ◌+◌, Bool, true, false, cond, List, [], ◌∷◌, ◌++◌, map, reverse, length, take, drop, sym, refl, ap, ◌∙◌, arith}
use Rattle.std.specs.List.{AllByRecursion}
use mathlib.Core.List.{reverse-cons}
use Rattle.std.proofs.lemmas.List.{take-append-drop, append-nil, length-append, length-map, length-reverse}
use Rattle.std.proofs.ByRecursion.{All-append, All-map, All-weaker, All-drop, All-take}
use Rattle.gates.specs.declared.gate.Gate.{Gate}
use Rattle.gates.specs.Kinds.{KindMeaning, KindLaws, Formed}
use Rattle.gates.specs.Cascades.{Restores, picked, rotated, flipped_or, Flippable}
use Rattle.gates.proofs.Runs.{all_with, all_reverse, backward_restores, swapped, flipped_or_formed, flipped_restores, renamed_restores}
use Rattle.workspace.proofs.Poses.{placed_long}
use Rattle.workspace.specs.Templates.{TemplateMeaning, size}
use Rattle.workspace.specs.Turns.{Placed, on_gate, placed_from, placed, kept, Turn, IsTurn, directed, turned}

-- what holds of each gate
abbrev pub Gates : (Gate → Type 0) → List Placed → Type 0
Gates P xs = AllByRecursion (λ x. P x.gate) xs

pub kept_append : (keep : ℕ → Bool) (xs ys : List Placed) → kept keep (xs ++ ys) ≡ kept keep xs ++ kept keep ys
kept_append keep [] ys = refl
kept_append keep (x ∷ xs) ys =
    elim (keep x.position) as (λ b. cond b (x.gate ∷ kept keep (xs ++ ys)) (kept keep (xs ++ ys)) ≡ cond b (x.gate ∷ kept keep xs) (kept keep xs) ++ kept keep ys)
    [ true ↦ ap (λ (r : List Gate). x.gate ∷ r) (kept_append keep xs ys) | false ↦ kept_append keep xs ys ]

pub kept_map : (keep : ℕ → Bool) (f : Gate → Gate) (xs : List Placed) → kept keep (map (on_gate f) xs) ≡ map f (kept keep xs)
kept_map keep f [] = refl
kept_map keep f (x ∷ xs) =
    elim (keep x.position) as (λ b. cond b (f x.gate ∷ kept keep (map (on_gate f) xs)) (kept keep (map (on_gate f) xs)) ≡ map f (cond b (x.gate ∷ kept keep xs) (kept keep xs)))
    [ true ↦ ap (λ (r : List Gate). f x.gate ∷ r) (kept_map keep f xs) | false ↦ kept_map keep f xs ]

pub kept_reverse : (keep : ℕ → Bool) (xs : List Placed) → kept keep (reverse xs) ≡ reverse (kept keep xs)
kept_reverse keep [] = refl
kept_reverse keep (x ∷ xs) =
    ap (kept keep) (reverse-cons x xs) ∙ kept_append keep (reverse xs) (x ∷ []) ∙ ap (λ (r : List Gate). r ++ kept keep (x ∷ [])) (kept_reverse keep xs) ∙ last
  where
    last : reverse (kept keep xs) ++ kept keep (x ∷ []) ≡ reverse (kept keep (x ∷ xs))
    last =
        elim (keep x.position) as (λ b. reverse (kept keep xs) ++ cond b (x.gate ∷ []) [] ≡ reverse (cond b (x.gate ∷ kept keep xs) (kept keep xs)))
        [ true ↦ sym (reverse-cons x.gate (kept keep xs)) | false ↦ append-nil (reverse (kept keep xs)) ]

pub kept_none : (xs : List Placed) → kept (λ _. false) xs ≡ []
kept_none [] = refl
kept_none (x ∷ xs) = kept_none xs

pub all_kept : (P : Gate → Type 0) (keep : ℕ → Bool) (xs : List Placed) → Gates P xs → AllByRecursion P (kept keep xs)
all_kept P keep [] h = tt
all_kept P keep (x ∷ xs) h =
    elim (keep x.position) as (λ b. AllByRecursion P (cond b (x.gate ∷ kept keep xs) (kept keep xs)))
    [ true ↦ (h.0, all_kept P keep xs h.1) | false ↦ all_kept P keep xs h.1 ]

-- the gates at some places, whether they keep their positions or not
kept_placed : (p : ℕ) (c keep : ℕ → Bool) → ((i : ℕ) → c i ≡ keep (p + i)) → (gates : List Gate) → picked c gates ≡ kept keep (placed_from p gates)
kept_placed p c keep h [] = refl
kept_placed p c keep h (g ∷ gates) =
    ap (λ (r : List Gate). cond (c 0) (g ∷ r) r) (kept_placed (suc p) (λ i. c (suc i)) keep (λ i. h (suc i) ∙ ap keep (omega arith)) gates)
    ∙ ap (λ (b : Bool). cond b (g ∷ kept keep (placed_from (suc p) gates)) (kept keep (placed_from (suc p) gates))) (h 0 ∙ ap keep (omega arith))

pub picked_placed : (keep : ℕ → Bool) (gates : List Gate) → picked keep gates ≡ kept keep (placed gates)
picked_placed keep gates = kept_placed 0 keep keep (λ i. ap keep (omega arith)) gates

all_placed : (P : Gate → Type 0) (p : ℕ) (gates : List Gate) → AllByRecursion P gates → Gates P (placed_from p gates)
all_placed P p [] h = tt
all_placed P p (g ∷ gates) h = (h.0, all_placed P (suc p) gates h.1)

length_directed : (k : KindMeaning) (back : Bool) (xs : List Placed) → length (directed k back xs) ≡ length xs
length_directed k true xs = simp (length-map, length-reverse)
length_directed k false xs = refl

pub length_turned : (k : KindMeaning) (e : TemplateMeaning) (t : Turn) → length (turned k t (placed e.gates)) ≡ size e
length_turned k e t =
    let xs = directed k t.back (placed e.gates) in
    let r = t.rotation in
    simp (length-map, length-append) (omega (arith, length-append (take r xs) (drop r xs), ap length (take-append-drop r xs), length_directed k t.back (placed e.gates), placed_long 0 e.gates))

all_rotated : {X : Type 0} (P : X → Type 0) (r : ℕ) (xs : List X) → AllByRecursion P xs → AllByRecursion P (rotated r xs)
all_rotated P r xs h = All-append P (drop r xs) (take r xs) (All-drop P r xs h) (All-take P r xs h)

module _ {k : KindMeaning} (laws : KindLaws k) where
  directed_formed : (n : ℕ) (back : Bool) (xs : List Placed) → Gates (Formed k n) xs → Gates (Formed k n) (directed k back xs)
  directed_formed n true xs h =
      All-map (λ x. Formed k n x.gate) (on_gate k.inverse) (reverse xs)
      (All-weaker (λ x. Formed k n x.gate) (λ x. Formed k n (k.inverse x.gate)) (λ x. laws.inverse_formed n x.gate) (reverse xs) (all_reverse (λ x. Formed k n x.gate) xs h))
  directed_formed n false xs h = h

  directed_restores : (n : ℕ) (keep : ℕ → Bool) (back : Bool) (xs : List Placed) → Gates (Formed k n) xs → Restores k (kept keep xs) → Restores k (kept keep (directed k back xs))
  directed_restores n keep true xs h r =
      rw (kept_map keep k.inverse (reverse xs), kept_reverse keep xs) (backward_restores laws n (kept keep xs) (all_kept (Formed k n) keep xs h) r)
  directed_restores n keep false xs h r = r

  rotated_keeps : (n : ℕ) (keep : ℕ → Bool) (r : ℕ) (xs : List Placed) → Gates (Formed k n) xs → Restores k (kept keep xs) → Restores k (kept keep (rotated r xs))
  rotated_keeps n keep r xs h e =
      rw (kept_append keep (drop r xs) (take r xs))
      (swapped laws n (kept keep (take r xs)) (kept keep (drop r xs)) (all_kept (Formed k n) keep (drop r xs) (All-drop (λ x. Formed k n x.gate) r xs h))
      (rw (← kept_append keep (take r xs) (drop r xs), take-append-drop r xs) e))

  module _ (n : ℕ) (e : TemplateMeaning) (t : Turn) (formed : AllByRecursion (Formed k e.lines) e.gates) (is : IsTurn k n e t) where
    -- the template directed and rotated
    round : List Placed
    round = rotated t.rotation (directed k t.back (placed e.gates))

    round_formed : Gates (Formed k e.lines) round
    unfolding round
    round_formed = all_rotated (λ x. Formed k e.lines x.gate) t.rotation _ (directed_formed e.lines t.back _ (all_placed (Formed k e.lines) 0 e.gates formed))

    round_flippable : Gates (Flippable k t.flips) round
    unfolding round
    round_flippable = all_rotated (λ x. Flippable k t.flips x.gate) t.rotation _ is.flippable

    flips_formed : Gates (Formed k e.lines) (map (on_gate (flipped_or k t.flips)) round)
    flips_formed =
        All-map (λ x. Formed k e.lines x.gate) (on_gate (flipped_or k t.flips)) round
        (all_with (λ x. Formed k e.lines x.gate) (λ x. Flippable k t.flips x.gate) (λ x. Formed k e.lines (flipped_or k t.flips x.gate))
        (λ x. flipped_or_formed laws e.lines t.flips x.gate) round round_formed round_flippable)

    -- the template directed, rotated and flipped is well formed on its own lines
    pub posed_formed : Gates (Formed k e.lines) (map (on_gate (flipped_or k t.flips)) (rotated t.rotation (directed k t.back (placed e.gates))))
    unfolding round
    posed_formed = flips_formed

    -- what renaming gives a well-formed gate, each turned gate has
    pub turned_all : (P : Gate → Type 0) → ((g : Gate) → Formed k e.lines g → P (k.renamed t.table g)) → Gates P (turned k t (placed e.gates))
    unfolding round
    turned_all P f =
        All-map (λ x. P x.gate) (on_gate (k.renamed t.table)) (map (on_gate (flipped_or k t.flips)) round)
        (All-weaker (λ x. Formed k e.lines x.gate) (λ x. P (k.renamed t.table x.gate)) (λ x. f x.gate) _ flips_formed)

    pub turned_formed : Gates (Formed k n) (turned k t (placed e.gates))
    turned_formed = turned_all (Formed k n) (λ g. laws.renamed_formed e.lines n t.table g is.maps)

    -- the gates at positions that restored every state still do when they are turned
    pub turned_restores : (keep : ℕ → Bool) → Restores k (picked keep e.gates) → Restores k (kept keep (turned k t (placed e.gates)))
    unfolding round
    turned_restores keep r =
        let l = e.lines in
        let directed-r : Restores k (kept keep (directed k t.back (placed e.gates))) = directed_restores l keep t.back _ (all_placed (Formed k l) 0 e.gates formed) (rw (← picked_placed keep e.gates) r) in
        let round-r : Restores k (kept keep round) = rotated_keeps l keep t.rotation _ (directed_formed l t.back _ (all_placed (Formed k l) 0 e.gates formed)) directed-r in
        rw (kept_map keep (k.renamed t.table) (map (on_gate (flipped_or k t.flips)) round), kept_map keep (flipped_or k t.flips) round)
        (renamed_restores laws l n t.table is.maps (map (flipped_or k t.flips) (kept keep round))
        (rw (← kept_map keep (flipped_or k t.flips) round) (all_kept (Formed k l) keep _ flips_formed))
        (flipped_restores laws l t.flips (kept keep round) (all_kept (Formed k l) keep round round_formed) (all_kept (Flippable k t.flips) keep round round_flippable) round-r))
