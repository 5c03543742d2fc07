-- One turn of settling, and its two ends.
use Rattle.std.proofs.Common.{◌≡◌, ℕ, suc, ◌+◌, ◌-◌, ◌≤◌, min, List, length, Some, subst, arith}
use Rattle.gates.specs.Kinds.{KindMeaning, KindLaws}
use Rattle.search.specs.Listing.{Chosen, Lowest, StartsFrom}
use Rattle.search.specs.Policy.{PolicyMeaning}
use Rattle.workspace.specs.declared.replacement.Replacement.{Replacement}
use Rattle.workspace.specs.Conditions.{Condition}
use Rattle.workspace.specs.Matching.{OccursIn, shown_of}
use Rattle.workspace.specs.Sweeps.{Replaced, Sweeps, Shortened}
use Rattle.workspace.proofs.Sweeping.{shortened_more, nothing_below, sweeps_more}
use Rattle.workspace.proofs.Swept.{swept_some}

-- where settling stands: the sweeps made so far, what they kept and saved, and where nothing occurs
pub record Stands (k : KindMeaning) (rule : PolicyMeaning) (before : Condition) (made saves from : ℕ) (here : Condition) : Type 0 where
  pub sweeps : Sweeps k rule made saves before here
  pub shortened : Shortened k before here saves
  pub below : StartsFrom (OccursIn k here) from

-- one more replacement; the sum does not wrap, since no more gates are saved than there were
pub stands_more : (k : KindMeaning) → KindLaws k → (rule : PolicyMeaning) (before here now : Condition) (made saves from : ℕ) (key : List ℕ) (answer : Replacement) (kept : List ℕ) (low next total most : ℕ)
    → length before.store.gates ≤ most → total ≡ min (saves + answer.saved) most → next ≡ min low (answer.place - 31)
    → Stands k rule before made saves from here → Chosen (OccursIn k here) (shown_of here.shelf) rule (Some key) kept → Lowest (OccursIn k here) low → Replaced k here key answer now
    → Stands k rule before (made + 1) total next now
stands_more k laws rule before here now made saves from key answer kept low next total most few sum is at ch lowest r =
    let one = swept_some k rule here kept laws key answer now at.shortened.sound ch r in
    let short = shortened_more k before here now saves answer.saved at.shortened one.shortened in
    let exact : saves + answer.saved ≡ total = omega (arith, short.sum) in
    let next-made : suc made ≡ made + 1 = omega arith in
    record {
      sweeps = subst (λ (n : ℕ). Sweeps k rule n total before now) next-made (subst (λ (n : ℕ). Sweeps k rule (suc made) n before now) exact (sweeps_more k rule made saves before here now answer at.sweeps one.swept));
      shortened = subst (λ (n : ℕ). Shortened k before now n) exact short;
      below = nothing_below k here key answer now low next r lowest is;
    }
