-- A key that occurs leads to a plan of its occurrence.
use Rattle.std.proofs.Common.{◌≡◌, ℕ, Bool, cond, List, ◌∷◌, get_or, Some, None, Ok, Err, Option, Result, sym, refl, ap, ◌∙◌, subst, ap₂, arith}
use Rattle.std.specs.Result.{result_ok}
use Rattle.fixed_list.specs.declared.fixed_list.FixedList.{FixedList}
use Rattle.fixed_list.specs.Lists.{contents}
use Rattle.gates.specs.declared.gate.Gate.{Gate}
use Rattle.gates.specs.Kinds.{KindMeaning}
use Rattle.workspace.specs.declared.named.Named.{Named}
use Rattle.workspace.specs.declared.asking.NoGroup.{NoGroup}
use Rattle.workspace.specs.declared.posed.Member.{Member}
use Rattle.workspace.specs.Templates.{TemplateMeaning}
use Rattle.workspace.specs.Turns.{Placed, turned_template}
use Rattle.workspace.specs.Conditions.{Condition, Sound, no_entry}
use Rattle.workspace.specs.Extensions.{posed_of, turned_by}
use Rattle.workspace.specs.Matching.{OccursIn, frame_at}
use Rattle.workspace.specs.Naming.{occurrence_of, named_of, readable, spelled}
use Rattle.workspace.specs.Occurrences.{Occurrence, OccursAs, places, key_of, template_on, at_places, additions}
use Rattle.workspace.specs.Plans.{Planned}
use Rattle.workspace.specs.Posing.{placed_of}
use Rattle.workspace.proofs.Extends.{frame_places}
use Rattle.workspace.proofs.ReadKeys.{some_is, spelled_key, readable_key}

-- the template e of entry i, which has l lines, is that of the key
module _ (k : KindMeaning) (c : Condition) (key : List ℕ) (sound : Sound k c) (there : OccursIn k c key) (i : ℕ) (second : i ≡ get_or key 1 0)
    (e : TemplateMeaning) (shelved : e ≡ (get_or c.shelf i no_entry).template) (l : ℕ) (lines : l ≡ e.lines) where
  abbrev o : Occurrence
  o = there.occurrence

  template : e ≡ template_on c.shelf o
  template = shelved ∙ ap (λ (j : ℕ). (get_or c.shelf j no_entry).template) (second ∙ ap (λ (ns : List ℕ). get_or ns 1 0) there.named)

  -- the key is read as its occurrence
  read : (r : Option Named) → named_of r ≡ cond (readable l key) (Some (spelled l key)) None → named_of r ≡ Some o
  read r is =
      is
      ∙ ap (λ (m : ℕ). cond (readable m key) (Some (spelled m key)) None) lines
      ∙ ap (λ (b : Bool). cond b (Some (spelled e.lines key)) None) (ap₂ (λ (t : TemplateMeaning) (ns : List ℕ). readable t.lines ns) template there.named ∙ readable_key k c o there.rules sound)
      ∙ ap₂ (λ (t : TemplateMeaning) (ns : List ℕ). Some (spelled t.lines ns)) template there.named
      ∙ ap Some (spelled_key k c o there.rules)

  pub read_none : named_of None ≡ cond (readable l key) (Some (spelled l key)) None → ⊥
  read_none is = let none : ◌≡◌ {A = Option Occurrence} None (Some o) = read None is in let z : ◌≡◌ {A = ℕ} 0 1 = cc in omega arith

  module _ (named : Named) (is : named_of (Some named) ≡ cond (readable l key) (Some (spelled l key)) None) where
    same : occurrence_of named ≡ o
    same = some_is _ _ (read (Some named) is)

    -- the rules, of the occurrence that was read
    rules : OccursAs k c.store.lines c.store.gates c.shelf (occurrence_of named)
    rules = subst (OccursAs k c.store.lines c.store.gates c.shelf) (sym same) there.rules

    of_read : e ≡ template_on c.shelf (occurrence_of named)
    of_read = template ∙ ap (template_on c.shelf) (sym same)

    extends : turned_by k e (occurrence_of named) (additions k c.store.lines c.store.gates e (occurrence_of named))
        ≡ Some (turned_template k (template_on c.shelf (occurrence_of named)) (occurrence_of named).turn rules.adds)
    extends =
        ap (λ (t : TemplateMeaning). turned_by k t (occurrence_of named) (additions k c.store.lines c.store.gates t (occurrence_of named))) of_read
        ∙ ap (turned_by k (template_on c.shelf (occurrence_of named)) (occurrence_of named)) rules.extension

    -- what extends the template for the gates of the frame is an extension, and the plan's
    module _ (frame : List Gate) (framed : frame ≡ frame_at c.store.gates named.first) (chosen : List Gate) (held : chosen ≡ at_places frame (0 ∷ contents named.later))
        (n : ℕ) (wide : n ≡ c.store.lines) (r : Result (FixedList Member 8) NoGroup)
        (extending : (gates : List Gate) → chosen ≡ at_places gates (places (occurrence_of named))
        → posed_of r ≡ turned_by k e (occurrence_of named) (additions k n gates e (occurrence_of named))) where
      made : posed_of r ≡ Some (turned_template k (template_on c.shelf (occurrence_of named)) (occurrence_of named).turn rules.adds)
      made =
          extending c.store.gates (held ∙ frame_places c.store.gates frame named.first (contents named.later) framed rules.near)
          ∙ ap (λ (m : ℕ). turned_by k e (occurrence_of named) (additions k m c.store.gates e (occurrence_of named))) wide
          ∙ extends

      pub extended_none : result_ok r ≡ None → ⊥
      extended_none none = let no : ◌≡◌ {A = Option (List Placed)} None (Some _) = sym (posed_none r none) ∙ made in let z : ◌≡◌ {A = ℕ} 0 1 = cc in omega arith
        where
          posed_none : (r : Result (FixedList Member 8) NoGroup) → result_ok r ≡ None → posed_of r ≡ None
          posed_none (Ok p) e = absurd (let z : ◌≡◌ {A = ℕ} 0 1 = cc in omega arith)
          posed_none (Err refusal) e = refl

      pub planned : (p : FixedList Member 8) → result_ok r ≡ Some p → Planned k c key record { named = named; extended = p }
      planned p some = record { named = there.named ∙ ap key_of (sym same); rules = rules; extended = some_is _ _ (sym (posed_some r some) ∙ made) }
        where
          posed_some : (r : Result (FixedList Member 8) NoGroup) → result_ok r ≡ Some p → posed_of r ≡ Some (placed_of (contents p))
          posed_some (Ok q) e = cc
          posed_some (Err refusal) e = absurd (let z : ◌≡◌ {A = ℕ} 0 1 = cc in omega arith)
