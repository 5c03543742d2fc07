-- The key of an occurrence can be read, and it is read as that occurrence.
use Rattle.std.proofs.Common.{◌≡◌, ◌+◌, ◌-◌, ◌<◌, Bool, true, false, cond, ltb, leb, map, length, Some, Option, refl, ap, ◌∙◌, arith}
use Rattle.std.proofs.lemmas.List.{take_at}
use Rattle.std.proofs.lemmas.Bool.{and_from, eq-eqb, le-leb, lt-ltb}
use Rattle.gates.specs.Kinds.{KindMeaning}
use Rattle.workspace.specs.TemplateTests.{all_pass}
use Rattle.workspace.specs.Conditions.{Condition, Sound}
use Rattle.workspace.specs.Naming.{readable, spelled}
use Rattle.workspace.specs.Occurrences.{Occurrence, OccursAs, places, key_of, template_on}
use Rattle.workspace.proofs.DecidingOccurrences.{named_back, all_passes}
use Rattle.workspace.proofs.Keying.{key_long, template_meets}

pub some_is : {X : Type 0} (x y : X) → ◌≡◌ {A = Option X} (Some x) (Some y) → x ≡ y
some_is x y e = cc

module _ (k : KindMeaning) (c : Condition) (o : Occurrence) (is : OccursAs k c.store.lines c.store.gates c.shelf o) where
  pub spelled_key : spelled (template_on c.shelf o).lines (key_of o) ≡ o
  spelled_key = some_is _ o (named_back k c.store.lines c.store.gates c.shelf o is)

  pub readable_key : Sound k c → readable (template_on c.shelf o).lines (key_of o) ≡ true
  readable_key sound =
      let e = template_on c.shelf o in
      let meets = template_meets k c.shelf o sound.templates is.listed in
      let distances = map (λ q. q - o.first) o.later in
      let long = key_long k c o is in
      and_from _ _ (le-leb e.lines 4 meets.lines.1)
      (and_from _ _ (le-leb (6 + e.lines) (length (key_of o)) (omega (arith, long)))
      (and_from _ _ (eq-eqb (8 - length (places o) + length (key_of o)) (13 + e.lines) (omega (arith, long, is.within, meets.size.1)))
      (and_from _ _ (direction o.turn.back)
      (ap (all_pass (λ x. ltb x 256)) (take_at o.turn.table distances e.lines is.turn.maps.long)
      ∙ all_passes (λ x. ltb x 256) (λ x. x < c.store.lines) (λ x lt. lt-ltb x 256 (omega (arith, is.turn.maps.few))) o.turn.table is.turn.maps.below))))
    where
      direction : (b : Bool) → leb (cond b 1 0) 1 ≡ true
      direction true = refl
      direction false = refl
