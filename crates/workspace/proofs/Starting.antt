-- What is known of a frame, from what its sets say.
use Rattle.std.proofs.Common.{◌≡◌, ℕ, ◌<◌, ◌≤◌, Bool, true, false, not, ◌&&◌, ◌||◌, ltb, ◌⊎◌, List, length, get_or, take, sym, refl, ap, ◌∙◌, ap₂, inl, inr, arith}
use Rattle.std.proofs.Math.Bool.{not-not}
use mathlib.Core.Bool.{beq}
use lib.Bits.{bit_and}
use Rattle.std.proofs.lemmas.List.{get_or-take, length-take}
use Rattle.std.proofs.lemmas.Bool.{cases_lt, lt-ltb, le-ltb, and_left, or_right}
use Rattle.gates.specs.declared.gate.Gate.{Gate}
use Rattle.gates.specs.Lines.{bit}
use Rattle.gates.specs.Controls.{gate}
use Rattle.gates.specs.Kinds.{KindMeaning}
use Rattle.gates.specs.Members.{every_of, every_at}
use Rattle.gates.proofs.Masks.{bit-bit_and}
use Rattle.gates.specs.ControlSets.{iff_same}
use Rattle.workspace.specs.declared.role.RoleSets.{RoleSets}
use Rattle.workspace.specs.Starts.{IsSet, HasRoles, blocks, Known, at_distance, movable, same_role, within}

-- the gates that block one are those before it with which it does not interchange
pub before_blocks : (k : KindMeaning) (gates : List Gate) (d : ℕ) (g : Gate) → d < length gates → g ≡ at_distance gates d → (set : ℕ)
    → IsSet set (λ e. ltb e (length (take d gates)) && not (k.free (at_distance (take d gates) e) g)) → IsSet set (blocks k gates d)
before_blocks k gates d g inside is set known i il = known i il ∙ by (cases_lt i d)
  where
    long : length (take d gates) ≡ d
    long = omega (arith, length-take d gates)

    by : (i < d) ⊎ (d ≤ i) → (ltb i (length (take d gates)) && not (k.free (at_distance (take d gates) i) g)) ≡ blocks k gates d i
    by (inl lt) =
        ap₂ (λ (n : ℕ) (x : Gate). ltb i n && not (k.free x g)) long (get_or-take d gates i (gate 0 0 0 0) lt)
        ∙ ap (λ (x : Gate). ltb i d && not (k.free (at_distance gates i) x)) is
    by (inr ge) = and_left (ltb i (length (take d gates))) _ (le-ltb i _ (omega (arith, long))) ∙ sym (and_left (ltb i d) _ (le-ltb i d ge))

module _ (k : KindMeaning) (frame : List Gate) (count : ℕ) (few : count ≤ 32) (long : length frame ≡ count) (sets : List ℕ) (lines : List RoleSets) (known : Known k frame sets lines) where
  -- all blockers are chosen where each gate before is chosen or interchanges
  blockers_within : (chosen d : ℕ) → d < length frame → within (get_or sets d 0) chosen ≡ movable k frame chosen d
  blockers_within chosen d dl = iff_same _ _
      (λ h. every_of d _ (λ e l. free e l (every_at 64 (λ e. bit chosen e || not (bit (get_or sets d 0) e)) h e (below e l))))
      (λ h. every_of 64 _ (λ e l. by e l h (cases_lt e d)))
    where
      below : (e : ℕ) → e < d → e < 64
      below e l = omega (arith, long, few)

      is_free : ℕ → Bool
      is_free e = k.free (at_distance frame e) (at_distance frame d)

      before : (e : ℕ) → e < d → not (bit (get_or sets d 0) e) ≡ is_free e
      before e l = ap not (known.blockers d dl e (below e l) ∙ ap (λ (b : Bool). b && not (is_free e)) (lt-ltb e d l)) ∙ not-not (is_free e)

      free : (e : ℕ) → e < d → (bit chosen e || not (bit (get_or sets d 0) e)) ≡ true → (bit chosen e || k.free (at_distance frame e) (at_distance frame d)) ≡ true
      free e l h = ap (λ (b : Bool). bit chosen e || b) (sym (before e l)) ∙ h

      by : (e : ℕ) → e < 64 → movable k frame chosen d ≡ true → (e < d) ⊎ (d ≤ e) → (bit chosen e || not (bit (get_or sets d 0) e)) ≡ true
      by e l h (inl lt) = ap (λ (b : Bool). bit chosen e || b) (before e lt) ∙ every_at d (λ e. bit chosen e || k.free (at_distance frame e) (at_distance frame d)) h e lt
      by e l h (inr ge) = or_right (bit chosen e) _ (ap not (known.blockers d dl e l ∙ and_left (ltb e d) _ (le-ltb e d ge)))

  pub eligible_known : (chosen after set : ℕ) → IsSet set (λ d. ltb d count && (ltb after d && within (get_or sets d 0) chosen))
      → IsSet set (λ d. ltb d (length frame) && (ltb after d && movable k frame chosen d))
  eligible_known chosen after set known i il = known i il ∙ ap (λ (n : ℕ). ltb i n && (ltb after i && within (get_or sets i 0) chosen)) (sym (long)) ∙ by (cases_lt i (length frame))
    where
      by : (i < length frame) ⊎ (length frame ≤ i)
          → (ltb i (length frame) && (ltb after i && within (get_or sets i 0) chosen)) ≡ (ltb i (length frame) && (ltb after i && movable k frame chosen i))
      by (inl lt) = ap (λ (b : Bool). ltb i (length frame) && (ltb after i && b)) (blockers_within chosen i lt)
      by (inr ge) = and_left (ltb i (length frame)) _ (le-ltb i _ ge) ∙ sym (and_left (ltb i (length frame)) _ (le-ltb i _ ge))

-- the sets that agree with each role, together
pub roles_agree : (k : KindMeaning) (frame : List Gate) (t : Gate) (line x positive negative targets : ℕ) (has : RoleSets) → HasRoles k frame x has
    → IsSet positive (λ i. beq (bit has.positive i) (bit t.positive line))
    → IsSet negative (λ i. beq (bit has.negative i) (bit t.negative line))
    → IsSet targets (λ i. beq (bit has.targets i) (bit (k.targets t) line))
    → IsSet (bit_and has.all (bit_and positive (bit_and negative targets))) (λ d. ltb d (length frame) && same_role k t line (at_distance frame d) x)
roles_agree k frame t line x positive negative targets has h p n q i il =
    bit-bit_and has.all _ i
    ∙ ap₂ ◌&&◌ (h.all i il)
    (bit-bit_and positive _ i ∙ ap₂ ◌&&◌ (p i il ∙ ap (λ (b : Bool). beq b (bit t.positive line)) (h.positive i il))
    (bit-bit_and negative _ i ∙ ap₂ ◌&&◌ (n i il ∙ ap (λ (b : Bool). beq b (bit t.negative line)) (h.negative i il)) (q i il ∙ ap (λ (b : Bool). beq b (bit (k.targets t) line)) (h.targets i il))))
    ∙ inside (ltb i (length frame)) (bit w.positive x) (bit w.negative x) (bit (k.targets w) x) (bit t.positive line) (bit t.negative line) (bit (k.targets t) line)
  where
    w : Gate
    w = at_distance frame i

    inside : (c x y z u v s : Bool) → (c && (beq (c && x) u && (beq (c && y) v && beq (c && z) s))) ≡ (c && (beq x u && (beq y v && beq z s)))
    inside true x y z u v s = refl
    inside false x y z u v s = refl
