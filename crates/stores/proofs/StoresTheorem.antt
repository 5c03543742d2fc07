-- The laws of stores and mounts.
use Rattle.std.proofs.Common.{◌≡◌, ℕ, zero, suc, ◌+◌, ◌<◌, ◌≤◌, Bool, true, false, ◌||◌, eqb, ltb, leb, ◌⊎◌, List, [], ◌∷◌, ◌++◌, map, length, get_or, take, drop, set, Decides, sym, refl, ap, ◌∙◌, ap₂, inl, inr, arith}
use Rattle.std.specs.List.{AllByRecursion, insert, remove}
use Rattle.std.proofs.lemmas.List.{length-set, take-append-drop, drop-drop}
use Rattle.std.proofs.lemmas.List.Edits.{length-insert, length-remove}
use Rattle.std.proofs.ByRecursion.{All-append, All-take, All-drop, All-set, All-map, All-weaker, All-get_or}
use Rattle.std.proofs.lemmas.Bool.{false≢true, ltb-true, leb-true, eq-eqb, ne_eqb, le-leb, lt-ltb, and_from, not_from_false, or_from}
use Rattle.gates.specs.declared.gate.Gate.{Gate}
use Rattle.gates.specs.Lines.{State, Outside, width, bit, through}
use Rattle.gates.specs.Controls.{with_member}
use Rattle.gates.specs.Kinds.{KindMeaning, KindLaws, Formed}
use Rattle.gates.specs.Cascades.{run}
use Rattle.gates.specs.Members.{every_of, bit_none}
use Rattle.gates.specs.ControlSets.{member_at}
use Rattle.gates.proofs.Runs as runs
use Rattle.stores.specs.declared.refusal.StoreRefusal.{StoreRefusal}
use Rattle.stores.specs.Stores.{StoreMeaning, Outcome, Bounded, Sound, with_gates, provided, after, overwrite_outcome, insert_outcome, remove_outcome}
use Rattle.stores.specs.Mounts.{renamed_by, completes, rearranges, inverse_of, Rearranged, window, start_in, size_in}
use Rattle.stores.specs.Laws.{Kept, Between, StoreLaws}
use Rattle.stores.proofs.Rearranging.{rearranged}

unchanged : (k : KindMeaning) (m : StoreMeaning) → Kept k m m
unchanged k m = record { lines = refl; capacity = refl; outside = refl; bounded = λ b. b; sound = λ s. s }

-- what a test leaves: what holds after a refusal and after what it lets through
either : {X : Type 0} (k : KindMeaning) (m : StoreMeaning) (b : Bool) (e : StoreRefusal) (r : Outcome X) → (b ≡ true → Kept k m (after m r)) → Kept k m (after m (provided b e r))
either k m true e r h = h refl
either k m false e r h = unchanged k m

-- another list that fits and is well formed
changed : (k : KindMeaning) (m : StoreMeaning) (gates : List Gate) → (Bounded m → length gates ≤ m.capacity) → (Sound k m → AllByRecursion (Formed k m.lines) gates) → Kept k m (with_gates m gates)
changed k m gates fits sound =
    record {
      lines = refl;
      capacity = refl;
      outside = refl;
      bounded = λ b. record { some_line = b.some_line; few_lines = b.few_lines; fits = fits b; small = b.small };
      sound = sound;
    }

module _ (k : KindMeaning) (m : StoreMeaning) (place : ℕ) where
  removing : Kept k m (after m (remove_outcome m place))
  removing =
      either k m (ltb place (length m.gates)) _ _ (λ e.
      let here : place < length m.gates = ltb-true place (length m.gates) e in
      changed k m (remove m.gates place) (λ b. omega (arith, length-remove m.gates place here, b.fits))
      (λ s. All-append (Formed k m.lines) (take place m.gates) _ (All-take (Formed k m.lines) place m.gates s) (All-drop (Formed k m.lines) (suc place) m.gates s)))

  module _ (g : Gate) where
    overwriting : Kept k m (after m (overwrite_outcome k m place g))
    overwriting =
        either k m (ltb place (length m.gates)) _ _ (λ e. either k m (k.form m.lines g) _ _ (λ formed.
        changed k m (set m.gates place g) (λ b. omega (arith, length-set m.gates place g, b.fits)) (λ s. All-set (Formed k m.lines) m.gates place g formed s)))

    inserting : Kept k m (after m (insert_outcome k m place g))
    inserting =
        either k m (leb place (length m.gates)) _ _ (λ e. either k m (k.form m.lines g) _ _ (λ formed. either k m (ltb (length m.gates) m.capacity) _ _ (λ room.
        let here : place ≤ length m.gates = leb-true place (length m.gates) e in
        changed k m (insert m.gates place g) (λ b. omega (arith, length-insert m.gates place g here, ltb-true (length m.gates) m.capacity room))
        (λ s. All-append (Formed k m.lines) (take place m.gates) _ (All-take (Formed k m.lines) place m.gates s) (formed, All-drop (Formed k m.lines) place m.gates s)))))

-- different lines below n, none of them seen, that make up all lines together with those seen
completing : (n seen : ℕ) (t : List ℕ) → n ≤ width → AllByRecursion (λ x. x < n) t → ((i j : ℕ) → i < length t → j < length t → get_or t i 0 ≡ get_or t j 0 → i ≡ j)
    → ((i : ℕ) → i < length t → bit seen (get_or t i 0) ≡ false) → ((j : ℕ) → j < n → (bit seen j ≡ true) ⊎ ((i : ℕ) × (i < length t) × (get_or t i 0 ≡ j))) → completes n seen t ≡ true
completing n seen [] few below apart fresh all = every_of n (bit seen) (λ j jl. by j (all j jl))
  where
    by : (j : ℕ) → (bit seen j ≡ true) ⊎ ((i : ℕ) × (i < 0) × (get_or [] i 0 ≡ j)) → bit seen j ≡ true
    by j (inl e) = e
    by j (inr (i, lt, e)) = absurd (let z : ⊥ = omega arith in z)
completing n seen (x ∷ t) few below apart fresh all =
    and_from _ _ (and_from _ _ (lt-ltb x n below.0) (not_from_false (bit seen x) (fresh 0 (omega arith))))
    (completing n (with_member x seen) t few below.1
    (λ i j li lj e. let z : suc i ≡ suc j = apart (suc i) (suc j) (omega arith) (omega arith) e in omega arith)
    (λ i li.
    let small : get_or t i 0 < n = All-get_or (λ y. y < n) t i 0 li below.1 in
    member_at x seen (get_or t i 0) (omega arith)
    ∙ or_from (eqb (get_or t i 0) x) (bit seen (get_or t i 0)) (ne_eqb (get_or t i 0) x (λ e. let z : suc i ≡ 0 = apart (suc i) 0 (omega arith) (omega arith) e in omega arith)) (fresh (suc i) (omega arith)))
    (λ j jl. next j jl (all j jl)))
  where
    more : (a b : Bool) → (a ≡ true) ⊎ (b ≡ true) → (a || b) ≡ true
    more true b h = refl
    more false b (inl e) = absurd (false≢true e)
    more false b (inr e) = e

    next : (j : ℕ) → j < n → (bit seen j ≡ true) ⊎ ((i : ℕ) × (i < suc (length t)) × (get_or (x ∷ t) i 0 ≡ j)) → (bit (with_member x seen) j ≡ true) ⊎ ((i : ℕ) × (i < length t) × (get_or t i 0 ≡ j))
    next j jl (inl e) = inl (member_at x seen j (omega arith) ∙ more (eqb j x) (bit seen j) (inr e))
    next j jl (inr (zero, lt, e)) = inl (member_at x seen j (omega arith) ∙ more (eqb j x) (bit seen j) (inl (eq-eqb j x (sym e))))
    next j jl (inr (suc i, lt, e)) = inr (i, omega arith, e)

-- the test of a table tells the truth
rearrangement : (n : ℕ) (t : List ℕ) → Decides (rearranges n t) (Rearranged n t (inverse_of n t))
rearrangement n t = (rearranged n t, passes)
  where
    passes : Rearranged n t (inverse_of n t) → rearranges n t ≡ true
    passes r =
        let there = r.there in
        and_from _ _ (le-leb n width there.few)
        (and_from _ _ (eq-eqb (length t) n there.long)
        (completing n 0 t there.few there.below (λ i j li lj e. there.different i j (omega (arith, there.long)) (omega (arith, there.long)) e)
        (λ i li. bit_none (get_or t i 0))
        (λ j jl.
        let back = r.back_again in
        let inside : get_or (inverse_of n t) j 0 < n = All-get_or (λ y. y < n) (inverse_of n t) j 0 (omega (arith, back.long)) back.below in
        inr (get_or (inverse_of n t) j 0, omega (arith, there.long), r.redone j jl))))

module _ {k : KindMeaning} (laws : KindLaws k) (m : StoreMeaning) (t : List ℕ) (is : rearranges m.lines t ≡ true) (sound : Sound k m) where
  tables : Rearranged m.lines t (inverse_of m.lines t)
  tables = rearranged m.lines t is

  renamed_back : renamed_by k (inverse_of m.lines t) (renamed_by k t m) ≡ m
  renamed_back = ap (with_gates m) (each m.gates sound)
    where
      each : (gates : List Gate) → AllByRecursion (Formed k m.lines) gates → map (k.renamed (inverse_of m.lines t)) (map (k.renamed t) gates) ≡ gates
      each [] h = refl
      each (g ∷ gates) h = ap₂ ◌∷◌ (laws.renamed_back m.lines t (inverse_of m.lines t) g tables.there tables.back_again tables.undone h.0) (each gates h.1)

  renamed_sound : Sound k (renamed_by k t m)
  renamed_sound =
      All-map (Formed k m.lines) (k.renamed t) m.gates
      (All-weaker (Formed k m.lines) (λ g. Formed k m.lines (k.renamed t g)) (λ g f. laws.renamed_formed m.lines m.lines t g tables.there f) m.gates sound)

  renamed_runs : (s : State) → through t (run k (renamed_by k t m).gates s) ≡ run k m.gates (through t s)
  renamed_runs s = runs.renamed_runs laws m.lines m.lines t tables.there m.gates sound s

  renamed_leaves : (s : State) (j : ℕ) → Outside t j → run k (renamed_by k t m).gates s j ≡ s j
  renamed_leaves s j out = runs.renamed_leaves laws m.lines m.lines t tables.there m.gates sound s j out

window_between : (m : StoreMeaning) (start size : ℕ) → Between m (window start size m)
window_between m start size =
    let s = start_in m start in
    let n = size_in m start size in
    record {
      before = take s m.gates;
      behind = drop (s + n) m.gates;
      outside = refl;
      in_a_row =
          ap (λ (r : List Gate). take s m.gates ++ (take n (drop s m.gates) ++ r)) (sym (drop-drop n s m.gates))
          ∙ ap (λ (r : List Gate). take s m.gates ++ r) (take-append-drop n (drop s m.gates))
          ∙ take-append-drop s m.gates;
    }

pub store_laws_lem : (k : KindMeaning) → KindLaws k → StoreLaws k
store_laws_lem k laws = record {
  overwriting = λ m place g. overwriting k m place g;
  inserting = λ m place g. inserting k m place g;
  removing = λ m place. removing k m place;
  reversed_twice = λ m sound. ap (with_gates m) (runs.backward_twice laws m.lines m.gates sound);
  reversed_sound = λ m sound. runs.backward_formed laws m.lines m.gates sound;
  reversed_undoes = λ m sound s. runs.backward_undoes laws m.lines m.gates sound s;
  reversed_undone = λ m sound s. runs.backward_undone laws m.lines m.gates sound s;
  rearrangement = rearrangement;
  renamed_back = renamed_back laws;
  renamed_sound = renamed_sound laws;
  renamed_runs = renamed_runs laws;
  renamed_leaves = renamed_leaves laws;
  window_between = window_between;
  window_sound = λ m start size sound. All-take (Formed k m.lines) _ _ (All-drop (Formed k m.lines) (start_in m start) m.gates sound);
}
