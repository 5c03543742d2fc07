-- The turned template with its added controls, and the replacement of a part of a cascade by it.
use Rattle.std.proofs.Common.{◌≡◌, ℕ, suc, ◌+◌, ◌≤◌, Bool, true, false, not, ◌&&◌, ◌||◌, List, [], ◌∷◌, ◌++◌, length, take, drop, sym, refl, ap, ◌∙◌, arith}
use Rattle.std.specs.List.{AllByRecursion}
use mathlib.Core.Path.{fun_ext}
use Rattle.std.proofs.lemmas.List.{take-append-drop, length-append, length-map, length-reverse, length-take, length-drop, length-take-le}
use Rattle.std.proofs.ByRecursion.{All-drop, All-append, All-take}
use Rattle.gates.specs.declared.gate.Gate.{Gate}
use Rattle.gates.specs.Lines.{State, Table}
use Rattle.gates.specs.Kinds.{KindMeaning, KindLaws, Formed}
use Rattle.gates.specs.Cascades.{run, Restores, backward, picked, Moves}
use Rattle.gates.proofs.Runs.{run_append, split, backward_formed, renamed_idle}
use Rattle.gates.proofs.Moving.{moving, all_picked, length_picked}
use Rattle.workspace.specs.Templates.{TemplateMeaning, MeetsRules, size, in_selected, outside_selected}
use Rattle.workspace.specs.Turns.{Placed, placed, kept, gates_of, Turn, IsTurn, turned, Added, Fits, turned_template, turned_gates, turned_unselected}
use Rattle.workspace.specs.TurnTheorem.{replaced, Turning}
use Rattle.workspace.proofs.Placing.{Gates, kept_none, turned_all, turned_formed, turned_restores, length_turned}
use Rattle.workspace.proofs.Extending as extending
use Rattle.workspace.proofs.Extending.{Room, holds_selection, failing, seen, selected_none, selected_either}

kept_whole : (xs : List Placed) → kept (λ _. true) xs ≡ gates_of xs
kept_whole [] = refl
kept_whole (x ∷ xs) = ap (λ (r : List Gate). x.gate ∷ r) (kept_whole xs)

-- outside the groups of two selections, where a third may fail the whole
outside_both : (a z b : Bool) → (not a && not (z || b)) ≡ not (z || (a || b))
outside_both true true b = refl
outside_both true false b = refl
outside_both false z b = refl

module _ {k : KindMeaning} (laws : KindLaws k) (n : ℕ) (e : TemplateMeaning) (t : Turn) where
  -- a gate on the new lines has room for the controls
  pub room : (adds : List Added) → Fits n t.table adds → Table e.lines n t.table → (g : Gate) → Formed k e.lines g → Room k n (k.renamed t.table g) adds
  room [] fits maps g f = tt
  room (a ∷ adds) fits maps g f = (fits.0, renamed_idle laws e.lines n t.table maps g f a.line fits.1, fits.2, room adds fits.3 maps g f)

  module _ (adds : List Added) (meets : MeetsRules k e) (is : IsTurn k n e t) (fits : Fits n t.table adds) where
    formed : Gates (Formed k n) (turned k t (placed e.gates))
    formed = turned_formed laws n e t meets.gates is

    rooms : Gates (λ g. Room k n g adds) (turned k t (placed e.gates))
    rooms = turned_all laws n e t meets.gates is (λ g. Room k n g adds) (room adds fits is.maps)

    pub extended_formed : AllByRecursion (Formed k n) (turned_gates k e t adds)
    extended_formed = extending.extended_formed laws n e.groups adds (turned k t (placed e.gates)) formed rooms

    -- what is left of the turned gates when a control of group 0 fails, or else those of some listed groups
    left : (z : Bool) (selection : ℕ → Bool) → Restores k (kept (λ p. not (z || in_selected selection e.groups p)) (turned k t (placed e.gates)))
    left true selection s = ap (λ (x : List Gate). run k x s) (kept_none (turned k t (placed e.gates)))
    left false selection s = turned_restores laws n e t meets.gates is (outside_selected selection e.groups) (meets.selections selection) s

    pub selections : (selection : ℕ → Bool) → Restores k (turned_unselected k selection e t adds)
    selections selection s =
        seen laws n e.groups adds (outside_selected selection e.groups) (turned k t (placed e.gates)) formed rooms s
        ∙ ap (λ (c : ℕ → Bool). run k (kept c (turned k t (placed e.gates))) s)
        (fun_ext λ p.
        ap (λ (b : Bool). outside_selected selection e.groups p && b) (holds_selection e.groups adds p s)
        ∙ outside_both (in_selected selection e.groups p) (failing adds s 0) (in_selected (λ i. failing adds s (suc i)) e.groups p)
        ∙ ap (λ (b : Bool). not (failing adds s 0 || b)) (sym (selected_either selection (λ i. failing adds s (suc i)) e.groups p)))
        ∙ left (failing adds s 0) (λ i. selection i || failing adds s (suc i)) s

    pub restore : Restores k (turned_gates k e t adds)
    restore s =
        ap (λ (x : List Gate). run k x s) (sym (kept_whole (turned_template k e t adds)))
        ∙ ap (λ (c : ℕ → Bool). run k (kept c (turned_template k e t adds)) s) (fun_ext λ p. sym (ap not (selected_none e.groups p)))
        ∙ selections (λ _. false) s

    pub replacement : (p m : ℕ) (c : ℕ → Bool) (gates : List Gate) → AllByRecursion (Formed k n) gates → Moves k c (drop p gates)
        → picked c (drop p gates) ≡ take m (turned_gates k e t adds)
        → (s : State) → run k (replaced k (turned_gates k e t adds) p m c gates) s ≡ run k gates s
    replacement p m c gates all moves here s =
        run_append k (take p gates) (new ++ rest) s
        ∙ run_append k new rest mid
        ∙ ap (run k rest) (sym (split laws n m (turned_gates k e t adds) extended_formed restore mid))
        ∙ ap (λ (x : List Gate). run k rest (run k x mid)) (sym here)
        ∙ sym (run_append k (picked c (drop p gates)) rest mid)
        ∙ sym (moving laws n c (drop p gates) (All-drop (Formed k n) p gates all) moves mid)
        ∙ sym (run_append k (take p gates) (drop p gates) s)
        ∙ ap (λ (x : List Gate). run k x s) (take-append-drop p gates)
      where
        mid : State
        mid = run k (take p gates) s

        new : List Gate
        new = backward k (drop m (turned_gates k e t adds))

        rest : List Gate
        rest = picked (λ i. not (c i)) (drop p gates)

    pub replacement_formed : (p m : ℕ) (c : ℕ → Bool) (gates : List Gate) → AllByRecursion (Formed k n) gates → AllByRecursion (Formed k n) (replaced k (turned_gates k e t adds) p m c gates)
    replacement_formed p m c gates all =
        All-append (Formed k n) (take p gates) _ (All-take (Formed k n) p gates all)
        (All-append (Formed k n) (backward k (drop m (turned_gates k e t adds))) _
        (backward_formed laws n (drop m (turned_gates k e t adds)) (All-drop (Formed k n) m (turned_gates k e t adds) extended_formed))
        (all_picked (Formed k n) (λ i. not (c i)) (drop p gates) (All-drop (Formed k n) p gates all)))

pub length_gates : (k : KindMeaning) (e : TemplateMeaning) (t : Turn) (adds : List Added) → length (turned_gates k e t adds) ≡ size e
length_gates k e t adds = length-map (turned_template k e t adds) (λ x. x.gate) ∙ length-map (turned k t (placed e.gates)) _ ∙ length_turned k e t

saves : (k : KindMeaning) (turned : List Gate) (m' p m : ℕ) (c : ℕ → Bool) (gates : List Gate) → length turned ≡ m'
    → m ≤ m' → p ≤ length gates → picked c (drop p gates) ≡ take m turned
    → length (replaced k turned p m c gates) + (m + m) ≡ length gates + m'
saves k turned m' p m c gates is m≤ p≤ here =
    let chosen : length (picked c (drop p gates)) ≡ m = ap length here ∙ length-take-le m turned (omega arith) in
    simp (length-append, length-map, length-reverse, length-drop, length-take)
    (omega (arith, chosen, length_picked c (drop p gates), length-drop p gates))

-- the theorem of turns
pub turning : (k : KindMeaning) → KindLaws k → Turning k
turning k laws n e t adds meets is fits = record {
  restore = restore laws n e t adds meets is fits;
  selections = selections laws n e t adds meets is fits;
  as_many = length_gates k e t adds;
  formed = extended_formed laws n e t adds meets is fits;
  split = λ m. split laws n m (turned_gates k e t adds) (extended_formed laws n e t adds meets is fits) (restore laws n e t adds meets is fits);
  replacement = replacement laws n e t adds meets is fits;
  replacement_formed = replacement_formed laws n e t adds meets is fits;
  replacement_saves = λ p m c gates. saves k (turned_gates k e t adds) (size e) p m c gates (length_gates k e t adds);
}
