-- What a search and the replacement of what it found come to.
use Rattle.std.proofs.Common.{◌≡◌, ℕ, ◌≤◌, List, [], length, Some, None, Option, sym, refl, ap, ◌∙◌, subst, arith}
use Rattle.std.proofs.lemmas.List.{length-map}
use Rattle.fixed_list.specs.Lists.{contents}
use Rattle.gates.specs.Kinds.{KindMeaning, KindLaws}
use Rattle.stores.specs.Stores.{Bounded, StoreMeaning}
use Rattle.search.specs.Keys.{ShownIn}
use Rattle.search.specs.Listing.{Chosen, StartsFrom}
use Rattle.search.specs.Policy.{PolicyMeaning, scan, opening}
use Rattle.workspace.specs.declared.holdings.Holdings.{Holdings}
use Rattle.workspace.specs.declared.replacement.Replacement.{Replacement}
use Rattle.workspace.specs.Conditions.{Condition, Sound}
use Rattle.workspace.specs.Holdings.{condition_of}
use Rattle.workspace.specs.Matching.{OccursIn, Searchable, shown_of}
use Rattle.workspace.specs.Promises.{SweepPromise, KeptAfter}
use Rattle.workspace.specs.Sweeps.{Replaced, Done, NothingOccurs}
use Rattle.workspace.proofs.DecidingOccurrences.{decides_occurrences}
use Rattle.workspace.specs.Shelves.{entry_of}
use Rattle.workspace.proofs.Keying.{keys_fit}
use Rattle.workspace.proofs.Sweeping.{replaced_shortens, unshortened}

-- a sound workspace can be searched: a store is bounded, and a shelf has at most 64 entries
pub ready : {S : Type 0} (k : KindMeaning) (means : S → StoreMeaning) → ((s : S) → Bounded (means s)) → (h : Holdings S) → Sound k (condition_of means h) → Searchable k (condition_of means h)
ready k means bounded h sound =
    let c = condition_of means h in
    let few : length c.shelf ≤ 64 = omega (arith, length-map (contents h.shelf.entries) entry_of, h.shelf.few) in
    record { sound = sound; fits = keys_fit k c sound (bounded h.store) few; decides = decides_occurrences k c.store.lines c.store.gates c.shelf }

-- from 0 on there is every first number
pub from_none : (P : List ℕ → Type 0) → StartsFrom P 0
from_none P v rest h = omega arith

module _ (k : KindMeaning) (rule : PolicyMeaning) (before : Condition) (kept : List ℕ) where
  -- what the policy keeps
  pub kept_after : (answer : Option (List ℕ)) → Chosen (OccursIn k before) (shown_of before.shelf) rule answer kept → KeptAfter k rule before kept
  kept_after answer ch os shown = ch.keeps ∙ ap (λ (xs : List (List ℕ)). (scan rule (shown_of before.shelf) (opening rule) xs).kept) (sym (ch.only os shown))

  -- a search that found nothing
  pub swept_none : Sound k before → Chosen (OccursIn k before) (shown_of before.shelf) rule None kept → SweepPromise k rule before None before
  swept_none sound ch = record {
    swept = record {
      os = ch.os;
      shown = ch.shown;
      done = subst (λ (o : Option (List ℕ)). Done k before o None before) ch.singled refl;
      none = λ e. ch.none refl;
      nothing = λ e. refl;
    };
    shortened = unshortened k before sound;
    saves = tt;
  }

  -- and then nothing occurs
  pub none_occurs : Chosen (OccursIn k before) (shown_of before.shelf) rule None kept → NothingOccurs k before
  none_occurs ch key there =
      let empty : ch.os ≡ [] = ch.none refl in
      (subst (λ (os : List (List ℕ)). ShownIn (OccursIn k before) [] os) empty ch.shown).all key (key, refl) there

  -- a search that found a key, and its replacement
  pub swept_some : KindLaws k → (key : List ℕ) (answer : Replacement) (now : Condition) → Sound k before → Chosen (OccursIn k before) (shown_of before.shelf) rule (Some key) kept
      → Replaced k before key answer now → SweepPromise k rule before (Some answer) now
  swept_some laws key answer now sound ch r =
      let both = replaced_shortens k laws before key answer now sound r in
      record {
        swept = record {
          os = ch.os;
          shown = ch.shown;
          done = subst (λ (o : Option (List ℕ)). Done k before o (Some answer) now) ch.singled r;
          none = λ e. absurd (let z : ◌≡◌ {A = ℕ} 0 1 = cc in omega arith);
          nothing = λ e. absurd (let n : ◌≡◌ {A = Option (List ℕ)} (Some key) None = ch.nothing e in let z : ◌≡◌ {A = ℕ} 0 1 = cc in omega arith);
        };
        shortened = both.0;
        saves = both.1;
      }
