-- What the calls that change a workspace come to, by what they do to its store and its shelf.
use Rattle.std.proofs.Common.{◌≡◌, ℕ, suc, ◌<◌, ◌≤◌, ◌⊎◌, inl, inr, Bool, true, false, cond, ltb, List, [], ◌∷◌, ◌++◌, length, take, drop, is_some, slice_get, Ok, Err, Option, Result, refl, ap, sym, subst, ◌∙◌, arith}
use Rattle.std.specs.List.{remove}
use Rattle.std.proofs.ByRecursion.{All-append, All-take, All-drop}
use Rattle.std.proofs.lemmas.List.Edits.{insert_end}
use Rattle.std.proofs.lemmas.Bool.{cases_lt, le-leb, le-ltb, lt-ltb}
use Rattle.std.proofs.lemmas.Option.{slice_get-get_or, slice_get_past}
use Rattle.gates.specs.declared.gate.Gate.{Gate}
use Rattle.gates.specs.declared.gate.GateRefusal.TheVariants.{NotWellFormed}
use Rattle.gates.specs.Kinds.{KindMeaning, KindLaws}
use Rattle.fixed_list.specs.Lists.{removed}
use Rattle.stores.specs.declared.refusal.StoreRefusal.{StoreRefusal}
use Rattle.stores.specs.declared.refusal.StoreRefusal.TheVariants.{Gate as RefusedGate, Full}
use Rattle.stores.specs.Stores.{StoreMeaning, with_gates, insert_outcome}
use Rattle.stores.specs.Stores as stores
use Rattle.stores.proofs.Outcomes as stores-outcomes
use Rattle.stores.proofs.StoresTheorem.{store_laws_lem}
use Rattle.workspace.specs.Templates.{MeetsRules}
use Rattle.workspace.specs.declared.refusal.TemplateRefusal.TheVariants.{NoSuchEntry}
use Rattle.workspace.specs.Promises.{Performed}
use Rattle.workspace.specs.Conditions.{Condition, no_entry, EntryMeaning, Sound, condition, answer, after, provided, append_outcome, withdraw_outcome}

pub provided_true : {X E : Type 0} (b : Bool) (e : E) (r : Result X E) → b ≡ true → provided b e r ≡ r
provided_true b e r h = ap (λ (x : Bool). provided x e r) h

-- inserting with the place known to be there
abbrev asked : Bool → Bool → StoreMeaning → stores.Outcome (Unit {0})
asked form room m = stores.provided form (RefusedGate NotWellFormed) (stores.provided room Full (Ok (tt, m)))

both : (form room : Bool) (m now : StoreMeaning) (entries : List EntryMeaning)
    → (stores.answer (asked form room now) ≡ answer (provided form (RefusedGate NotWellFormed) (provided room Full (Ok (tt {0}, condition now entries)))))
    × (condition (stores.after m (asked form room now)) entries ≡ after (condition m entries) (provided form (RefusedGate NotWellFormed) (provided room Full (Ok (tt {0}, condition now entries)))))
both true true m now entries = (refl, refl)
both true false m now entries = (refl, refl)
both false room m now entries = (refl, refl)

module _ (k : KindMeaning) (m : StoreMeaning) (entries : List EntryMeaning) (g : Gate) where
  at_end : insert_outcome k m (length m.gates) g ≡ asked (k.form m.lines g) (ltb (length m.gates) m.capacity) (with_gates m (m.gates ++ g ∷ []))
  at_end =
      stores-outcomes.provided_true _ _ _ (le-leb (length m.gates) (length m.gates) (omega arith))
      ∙ ap (λ (gates : List Gate). asked (k.form m.lines g) (ltb (length m.gates) m.capacity) (with_gates m gates)) (insert_end m.gates g)

  -- a gate put at the end, by what the store answers and how it is left
  pub appended : KindLaws k → (given : Result (Unit {0}) StoreRefusal) (now : StoreMeaning)
      → given ≡ stores.answer (insert_outcome k m (length m.gates) g) → now ≡ stores.after m (insert_outcome k m (length m.gates) g)
      → Performed k (condition m entries) (append_outcome k (condition m entries) g) given (condition now entries)
  appended laws given now told left =
      let same = both (k.form m.lines g) (ltb (length m.gates) m.capacity) m (with_gates m (m.gates ++ g ∷ [])) entries in
      record {
        answers = told ∙ ap stores.answer at_end ∙ same.0;
        leaves = ap (λ (s : StoreMeaning). condition s entries) (left ∙ ap (stores.after m) at_end) ∙ same.1;
        sound = λ s. record {
          gates = subst (stores.Sound k) (sym left) (((store_laws_lem k laws).inserting m (length m.gates) g).sound s.gates);
          templates = s.templates;
        };
      }

module _ (k : KindMeaning) (m : StoreMeaning) (entries : List EntryMeaning) where
  pub withdraw_sound : (number : ℕ) → Sound k (condition m entries) → Sound k (condition m (remove entries number))
  withdraw_sound number s =
      let P = λ (e : EntryMeaning). MeetsRules k e.template in
      record { gates = s.gates; templates = All-append P (take number entries) (drop (suc number) entries) (All-take P number entries s.templates) (All-drop P (suc number) entries s.templates) }

  -- taking an entry out, by whether there was one
  pub withdrawn : (number : ℕ) (taken : Option EntryMeaning) (now : List EntryMeaning) → taken ≡ slice_get entries number → now ≡ removed entries number
      → Performed k (condition m entries) (withdraw_outcome (condition m entries) number) (cond (is_some taken) (Ok tt) (Err NoSuchEntry)) (condition m now)
  withdrawn number taken now told left =
      subst (λ (xs : List EntryMeaning). Performed k before (withdraw_outcome before number) (cond (is_some taken) (Ok tt) (Err NoSuchEntry)) (condition m xs)) (sym left)
      (subst (λ (o : Option EntryMeaning). Performed k before (withdraw_outcome before number) (cond (is_some o) (Ok tt) (Err NoSuchEntry)) (condition m (removed entries number))) (sym told)
      (at (ltb number (length entries)) (is_some (slice_get entries number)) (there (cases_lt number (length entries)))))
    where
      before : Condition
      before = condition m entries

      there : (number < length entries) ⊎ (length entries ≤ number) → is_some (slice_get entries number) ≡ ltb number (length entries)
      there (inl lt) = ap is_some (slice_get-get_or entries number no_entry lt) ∙ sym (lt-ltb number (length entries) lt)
      there (inr le) = ap is_some (slice_get_past entries number le) ∙ sym (le-ltb number (length entries) le)

      at : (b some : Bool) → some ≡ b
          → Performed k before (provided b NoSuchEntry (Ok (tt {0}, condition m (remove entries number)))) (cond some (Ok (tt {0})) (Err NoSuchEntry)) (condition m (cond b (remove entries number) entries))
      at true some e = record { answers = ap (λ (t : Bool). cond t (Ok (tt {0})) (Err NoSuchEntry)) e; leaves = refl; sound = withdraw_sound number }
      at false some e = record { answers = ap (λ (t : Bool). cond t (Ok (tt {0})) (Err NoSuchEntry)) e; leaves = refl; sound = λ s. s }
