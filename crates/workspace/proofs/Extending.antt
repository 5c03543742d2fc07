-- Controls added by groups: a state sees the gates all of whose added controls hold in it, which are the gates in none of some selected groups.
use Rattle.std.proofs.Common.{◌≡◌, ℕ, zero, suc, ◌<◌, Bool, true, false, cond, not, ◌&&◌, ◌||◌, List, [], ◌∷◌, sym, refl, ap, ◌∙◌}
use Rattle.std.specs.List.{AllByRecursion}
use mathlib.Core.Path.{fun_ext}
use mathlib.Core.Bool.{beq}
use Rattle.std.proofs.ByRecursion.{All-weaker}
use Rattle.gates.specs.declared.gate.Gate.{Gate}
use Rattle.gates.specs.Lines.{State, with_line_lem, bit}
use Rattle.gates.specs.Controls.{wanted}
use Rattle.gates.specs.Kinds.{KindMeaning, KindLaws, Formed, Idle}
use Rattle.gates.specs.Cascades.{run}
use Rattle.gates.specs.States.{with_there}
use Rattle.gates.proofs.Runs.{idle_keeps}
use Rattle.workspace.specs.Templates.{in_selected}
use Rattle.workspace.specs.Turns.{Placed, kept, Added, in_listed, member, added, extended, gates_of}
use Rattle.workspace.proofs.Placing.{Gates}

-- whether the controls added to the gate at position p hold in s
abbrev pub holds : List ℕ → List Added → ℕ → State → Bool
holds groups [] p s = true
holds groups (a ∷ adds) p s = cond (member groups a.group p) (beq (s a.line) (wanted a.sign)) true && holds groups adds p s

-- states that are equal on the lines of the controls
holds_same : (groups : List ℕ) (adds : List Added) (p : ℕ) (s' s : State) → AllByRecursion (λ a. s' a.line ≡ s a.line) adds → holds groups adds p s' ≡ holds groups adds p s
holds_same groups [] p s' s h = refl
holds_same groups (a ∷ adds) p s' s h =
    ap (λ (v : Bool). cond (member groups a.group p) (beq v (wanted a.sign)) true && holds groups adds p s') h.0
    ∙ ap (λ (b : Bool). cond (member groups a.group p) (beq (s a.line) (wanted a.sign)) true && b) (holds_same groups adds p s' s h.1)

-- none of the controls is on line l
abbrev pub Apart : ℕ → List Added → Type 0
Apart l adds = AllByRecursion (λ b. b.line ≡ l → ⊥) adds

-- the controls are on different lines of the n, which g neither reads nor changes
abbrev pub Room : KindMeaning → ℕ → Gate → List Added → Type 0
Room k n g [] = Unit {0}
Room k n g (a ∷ adds) = (a.line < n) × Idle k g a.line × Apart a.line adds × Room k n g adds

-- h does what g does where a test holds that does not see line l
idle_under : (k : KindMeaning) (g h : Gate) (l : ℕ) (test : State → Bool) → ((s : State) → k.sends h s ≡ cond (test s) (k.sends g s) s)
    → ((s : State) (v : Bool) → test (with_line_lem s l v) ≡ test s) → Idle k g l → Idle k h l
idle_under k g h l test does blind idle s v =
    does (with_line_lem s l v)
    ∙ ap (λ (b : Bool). cond b (k.sends g (with_line_lem s l v)) (with_line_lem s l v)) (blind s v)
    ∙ ap (λ (x : State). cond (test s) x (with_line_lem s l v)) (idle s v)
    ∙ (elim (test s) as (λ b. cond b (with_line_lem (k.sends g s) l v) (with_line_lem s l v) ≡ with_line_lem (cond b (k.sends g s) s) l v) [ true ↦ refl | false ↦ refl ])
    ∙ ap (λ (x : State). with_line_lem x l v) (sym (does s))

both : {X : Type 0} (a b : Bool) (x y : X) → cond a (cond b x y) y ≡ cond (a && b) x y
both true b x y = refl
both false b x y = refl

module _ {k : KindMeaning} (laws : KindLaws k) (n : ℕ) (groups : List ℕ) where
  -- h is well formed, and does what g does where the controls hold
  pub record Controlled (adds : List Added) (p : ℕ) (g h : Gate) : Type 0 where
    pub formed : Formed k n h
    pub does : (s : State) → k.sends h s ≡ cond (holds groups adds p s) (k.sends g s) s

  -- a line that g neither reads nor changes, and that none of the controls is on
  pub still_idle : (l : ℕ) (adds : List Added) (p : ℕ) (g h : Gate) → Idle k g l → Apart l adds → Controlled adds p g h → Idle k h l
  still_idle l adds p g h idle apart c =
      idle_under k g h l (holds groups adds p) c.does
      (λ s v. holds_same groups adds p (with_line_lem s l v) s (All-weaker (λ b. b.line ≡ l → ⊥) (λ b. with_line_lem s l v b.line ≡ s b.line) (λ b. with_there s l b.line v) adds apart)) idle

  one_more : (a : Added) (adds : List Added) (p : ℕ) (g h : Gate) → a.line < n → Idle k g a.line → Apart a.line adds → Controlled adds p g h
      → (b : Bool) → Formed k n (cond b (k.controlled a.line a.sign h) h)
      × ((s : State) → k.sends (cond b (k.controlled a.line a.sign h) h) s ≡ cond (cond b (beq (s a.line) (wanted a.sign)) true && holds groups adds p s) (k.sends g s) s)
  one_more a adds p g h below idle apart c false = (c.formed, c.does)
  one_more a adds p g h below idle apart c true =
      let room : Idle k h a.line = still_idle a.line adds p g h idle apart c in (
        laws.controlled_formed n a.line a.sign h c.formed below room,
        λ s. laws.controlled_does n a.line a.sign h c.formed below room s
            ∙ ap (λ (x : State). cond (beq (s a.line) (wanted a.sign)) x s) (c.does s)
            ∙ both (beq (s a.line) (wanted a.sign)) (holds groups adds p s) (k.sends g s) s,
      )

  pub controls : (adds : List Added) (p : ℕ) (g : Gate) → Formed k n g → Room k n g adds → Controlled adds p g (added k groups adds p g)
  controls [] p g f room = record { formed = f; does = λ s. refl }
  controls (a ∷ adds) p g f room =
      let more = one_more a adds p g (added k groups adds p g) room.0 room.1 room.2 (controls adds p g f room.3) (member groups a.group p) in
      record { formed = more.0; does = more.1 }

  room_kept : (adds : List Added) (g : Gate) → Room k n g adds → (s : State) → AllByRecursion (λ a. k.sends g s a.line ≡ s a.line) adds
  room_kept [] g room s = tt
  room_kept (a ∷ adds) g room s = (idle_keeps k g a.line room.1 s, room_kept adds g room.3 s)

  pub extended_formed : (adds : List Added) (xs : List Placed) → Gates (Formed k n) xs → Gates (λ g. Room k n g adds) xs → AllByRecursion (Formed k n) (gates_of (extended k groups adds xs))
  extended_formed adds [] f room = tt
  extended_formed adds (x ∷ xs) f room = ((controls adds x.position x.gate f.0 room.0).formed, extended_formed adds xs f.1 room.1)

  -- of the gates at some positions a state sees only those of which the added controls hold in it
  pub seen : (adds : List Added) (keep : ℕ → Bool) (xs : List Placed) → Gates (Formed k n) xs → Gates (λ g. Room k n g adds) xs
      → (s : State) → run k (kept keep (extended k groups adds xs)) s ≡ run k (kept (λ p. keep p && holds groups adds p s) xs) s
  seen adds keep [] f room s = refl
  seen adds keep (x ∷ xs) f room s =
      elim (keep x.position) as (λ b. run k (cond b (new ∷ rest) rest) s ≡ run k (cond (b && holds groups adds x.position s) (x.gate ∷ seen_by s) (seen_by s)) s) [
        | true ↦
            ap (run k rest) ((controls adds x.position x.gate f.0 room.0).does s)
            ∙ (elim (holds groups adds x.position s) as (λ b. run k rest (cond b (k.sends x.gate s) s) ≡ run k (cond b (x.gate ∷ seen_by s) (seen_by s)) s) [
              | true ↦
                  seen adds keep xs f.1 room.1 (k.sends x.gate s)
                  ∙ ap (λ (c : ℕ → Bool). run k (kept (λ p. keep p && c p) xs) (k.sends x.gate s)) (fun_ext λ p. holds_same groups adds p (k.sends x.gate s) s (room_kept adds x.gate room.0 s))
              | false ↦ seen adds keep xs f.1 room.1 s
            ])
        | false ↦ seen adds keep xs f.1 room.1 s
      ]
    where
      new : Gate
      new = added k groups adds x.position x.gate

      rest : List Gate
      rest = kept keep (extended k groups adds xs)

      seen_by : State → List Gate
      seen_by s = kept (λ p. keep p && holds groups adds p s) xs

-- whether two numbers are equal
same : ℕ → ℕ → Bool
same zero zero = true
same zero (suc j) = false
same (suc i) zero = false
same (suc i) (suc j) = same i j

-- the group of number j has a control that fails in s
pub failing : List Added → State → ℕ → Bool
failing [] s j = false
failing (a ∷ adds) s j = (same a.group j && not (beq (s a.line) (wanted a.sign))) || failing adds s j

pub selected_none : (groups : List ℕ) (p : ℕ) → in_selected (λ _. false) groups p ≡ false
selected_none [] p = refl
selected_none (m ∷ groups) p = selected_none groups p

-- what is in a group of either selection
pub selected_either : (a b : ℕ → Bool) (groups : List ℕ) (p : ℕ) → in_selected (λ i. a i || b i) groups p ≡ (in_selected a groups p || in_selected b groups p)
selected_either a b [] p = refl
selected_either a b (m ∷ groups) p =
    ap (λ (r : Bool). ((a 0 || b 0) && bit m p) || r) (selected_either (λ i. a (suc i)) (λ i. b (suc i)) groups p)
    ∙ mixed (a 0) (b 0) (bit m p) (in_selected (λ i. a (suc i)) groups p) (in_selected (λ i. b (suc i)) groups p)
  where
    mixed : (x y z u v : Bool) → (((x || y) && z) || (u || v)) ≡ (((x && z) || u) || ((y && z) || v))
    mixed true y true u v = refl
    mixed true true false u v = refl
    mixed true false false u v = refl
    mixed false true true true v = refl
    mixed false true true false v = refl
    mixed false true false u v = refl
    mixed false false z u v = refl

selected_one : (j : ℕ) (f : Bool) (groups : List ℕ) (p : ℕ) → in_selected (λ i. same j i && f) groups p ≡ (in_listed groups j p && f)
unfolding same
selected_one j f [] p = refl
selected_one zero f (m ∷ groups) p = ap (λ (r : Bool). (f && bit m p) || r) (selected_none groups p) ∙ last f (bit m p)
  where
    last : (x y : Bool) → ((x && y) || false) ≡ (y && x)
    last true true = refl
    last true false = refl
    last false true = refl
    last false false = refl
selected_one (suc j) f (m ∷ groups) p = selected_one j f groups p

-- the controls of p hold in s where p is in no group of which one fails
pub holds_selection : (groups : List ℕ) (adds : List Added) (p : ℕ) (s : State)
    → holds groups adds p s ≡ not (failing adds s 0 || in_selected (λ i. failing adds s (suc i)) groups p)
unfolding failing same
holds_selection groups [] p s = sym (ap not (selected_none groups p))
holds_selection groups (a ∷ adds) p s =
    ap (λ (r : Bool). cond (member groups a.group p) (beq (s a.line) (wanted a.sign)) true && r) (holds_selection groups adds p s)
    ∙ by a.group (beq (s a.line) (wanted a.sign)) (failing adds s 0)
  where
    whole : (x z d : Bool) → (x && not (z || d)) ≡ not ((not x || z) || d)
    whole true z d = refl
    whole false z d = refl

    part : (m x z d : Bool) → (cond m x true && not (z || d)) ≡ not (z || ((m && not x) || d))
    part true true z d = refl
    part true false true d = refl
    part true false false d = refl
    part false x z d = refl

    by : (g : ℕ) (x z : Bool)
        → (cond (member groups g p) x true && not (z || in_selected (λ i. failing adds s (suc i)) groups p))
        ≡ not (((same g 0 && not x) || z) || in_selected (λ i. (same g (suc i) && not x) || failing adds s (suc i)) groups p)
    by zero x z = whole x z (in_selected (λ i. failing adds s (suc i)) groups p)
    by (suc j) x z =
        part (in_listed groups j p) x z (in_selected (λ i. failing adds s (suc i)) groups p)
        ∙ ap (λ (r : Bool). not (z || r)) (sym (selected_either (λ i. same j i && not x) (λ i. failing adds s (suc i)) groups p ∙ ap (λ (r : Bool). r || in_selected (λ i. failing adds s (suc i)) groups p) (selected_one j (not x) groups p)))
