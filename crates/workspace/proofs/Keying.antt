-- The keys of occurrences fit the keys of a search.
use Rattle.std.proofs.Common.{◌≡◌, ℕ, ◌+◌, ◌-◌, ◌<◌, ◌≤◌, Bool, true, false, cond, List, map, length, sym, refl, subst, arith}
use Rattle.std.specs.List.{AllByRecursion}
use Rattle.std.proofs.lemmas.Nat.{pow_below}
use Rattle.std.proofs.ByRecursion.{All-get_or, All-append, All-map, All-weaker}
use Rattle.std.proofs.lemmas.List.{length-append, length-map}
use Rattle.gates.specs.Kinds.{KindMeaning}
use Rattle.stores.specs.Stores.{Bounded}
use Rattle.search.specs.Keys.{key_size, number_limit}
use Rattle.search.specs.Listing.{FitsKey}
use Rattle.workspace.specs.Templates.{MeetsRules}
use Rattle.workspace.specs.Conditions.{EntryMeaning, Condition, no_entry, Sound}
use Rattle.workspace.specs.Occurrences.{Occurrence, key_of, template_on, OccursAs}
use Rattle.workspace.specs.Matching.{occurs_in_test}
use Rattle.workspace.proofs.DecidingOccurrences.{decides_occurrences}

-- the template of an occurrence on a sound shelf meets the rules
pub template_meets : (k : KindMeaning) (shelf : List EntryMeaning) (o : Occurrence) → AllByRecursion (λ e. MeetsRules k e.template) shelf → o.number < length shelf → MeetsRules k (template_on shelf o)
template_meets k shelf o sound lt = All-get_or (λ (e : EntryMeaning). MeetsRules k e.template) shelf o.number no_entry lt sound

module _ (k : KindMeaning) (c : Condition) (o : Occurrence) (r : OccursAs k c.store.lines c.store.gates c.shelf o) where
  -- how many numbers a key has
  pub key_long : length (key_of o) ≡ 6 + (template_on c.shelf o).lines + length o.later
  key_long = omega (arith, length-append o.turn.table (map (λ q. q - o.first) o.later), length-map o.later (λ q. q - o.first), r.turn.maps.long)

  module _ (sound : Sound k c) where
    meets : MeetsRules k (template_on c.shelf o)
    meets = template_meets k c.shelf o sound.templates r.listed

    pub key_short : length (key_of o) ≤ key_size
    key_short = omega (arith, key_long, meets.lines.1, meets.size.1, r.within)

    flips_few : o.turn.flips < 32
    flips_few = omega (arith, r.turn.flips, pow_below (template_on c.shelf o).lines 5 (omega (arith, meets.lines.1)))

    pub key_small : Bounded c.store → length c.shelf ≤ 64 → AllByRecursion (λ v. v < number_limit) (key_of o)
    key_small bounded few = (
      omega (arith, r.inside.0, bounded.fits, bounded.small),
      (
        omega (arith, r.listed),
        (
          omega arith,
          (
            back o.turn.back,
            (
              omega (arith, r.turn.rotates, meets.size.1),
              (
                omega (arith, flips_few),
                All-append (λ v. v < number_limit) o.turn.table (map (λ q. q - o.first) o.later)
                    (All-weaker (λ v. v < c.store.lines) (λ v. v < number_limit) (λ v l. omega (arith, bounded.few_lines)) o.turn.table r.turn.maps.below)
                    (All-map (λ v. v < number_limit) (λ q. q - o.first) o.later (All-weaker (λ q. q ≤ o.first + 31) (λ q. q - o.first < number_limit) (λ q l. omega arith) o.later r.near)),
              ),
            ),
          ),
        ),
      ),
    )
      where
        back : (b : Bool) → cond b 1 0 < number_limit
        back true = omega arith
        back false = omega arith

-- what passes the test fits a key
pub keys_fit : (k : KindMeaning) (c : Condition) → Sound k c → Bounded c.store → length c.shelf ≤ 64 → FitsKey (occurs_in_test k c) key_size number_limit
keys_fit k c sound bounded few = record {
  some = refl;
  short = λ key e. let s = (decides_occurrences k c.store.lines c.store.gates c.shelf key).0 e in subst (λ (x : List ℕ). length x ≤ key_size) (sym s.named) (key_short k c s.occurrence s.rules sound);
  small = λ key e.
      let s = (decides_occurrences k c.store.lines c.store.gates c.shelf key).0 e in
      subst (λ (x : List ℕ). AllByRecursion (λ v. v < number_limit) x) (sym s.named) (key_small k c s.occurrence s.rules sound bounded few);
}
