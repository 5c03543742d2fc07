-- Taking the chosen gates out and putting the inverses of the template's other gates in is the replacement.
use Rattle.std.proofs.Common.{◌≡◌, ℕ, ◌+◌, ◌<◌, ◌≤◌, min, not, List, [], ◌∷◌, ◌++◌, map, length, take, drop, sym, refl, ap, ◌∙◌, subst, ap₂, arith}
use Rattle.std.specs.List.{AllByRecursion}
use Rattle.std.proofs.ByRecursion.{All-drop}
use Rattle.std.proofs.lemmas.List.{take_at, drop_at, length-take-le, length-append, length-map}
use Rattle.gates.specs.declared.gate.Gate.{Gate}
use Rattle.gates.specs.Kinds.{KindMeaning, KindLaws, Formed}
use Rattle.gates.specs.Cascades.{backward, picked}
use Rattle.stores.specs.Stores.{StoreMeaning, Bounded, with_gates}
use Rattle.workspace.specs.declared.posed.Member.{Member}
use Rattle.workspace.specs.Templates.{TemplateMeaning, size}
use Rattle.workspace.specs.Turns.{turned_gates, gates_of}
use Rattle.workspace.specs.Conditions.{Condition, Sound}
use Rattle.workspace.specs.Edits.{without, with_inverses}
use Rattle.workspace.specs.Posing.{placed_of}
use Rattle.workspace.specs.Occurrences.{Occurrence, OccursAs, places, template_on, is_chosen, after_replacing}
use Rattle.workspace.proofs.Occurring.{replacing_laws, adds_fit}
use Rattle.workspace.proofs.Replacing as replacing
use Rattle.workspace.proofs.Sweeping.{meets}
use Rattle.workspace.proofs.TakingOut.{inverses_long}
use Rattle.workspace.proofs.WithoutPlaces.{without_is}

-- what holds of each value of f holds of f of each
pub all_unmapped : {X Y : Type 0} (P : Y → Type 0) (f : X → Y) (xs : List X) → AllByRecursion P (map f xs) → AllByRecursion (λ x. P (f x)) xs
all_unmapped P f [] h = tt
all_unmapped P f (x ∷ xs) h = (h.0, all_unmapped P f xs h.1)

-- places within the list are small numbers
pub small_places : (first most bound : ℕ) (ds : List ℕ) → bound ≤ most → AllByRecursion (λ q. q < bound) (map (λ d. first + d) ds) → map (λ d. min (first + d) most) ds ≡ map (λ d. first + d) ds
small_places first most bound [] le all = refl
small_places first most bound (d ∷ ds) le all =
    ap₂ ◌∷◌ (let e : min (first + d) most ≡ first + d = omega (arith, all.0) in e) (small_places first most bound ds le all.1)

-- the members' gates, without their positions
pub members_gates : (ms : List Member) → map (λ (m : Member). m.gate) ms ≡ gates_of (placed_of ms)
members_gates [] = refl
members_gates (m ∷ ms) = ap (λ (gs : List Gate). m.gate ∷ gs) (members_gates ms)

module _ (k : KindMeaning) (laws : KindLaws k) (c : Condition) (bounded : Bounded c.store) (sound : Sound k c) (o : Occurrence)
    (is : OccursAs k c.store.lines c.store.gates c.shelf o) where
  -- the gates, the template, its turned gates, and how many are chosen
  abbrev gs : List Gate
  gs = c.store.gates

  abbrev e : TemplateMeaning
  e = template_on c.shelf o

  abbrev turned : List Gate
  turned = turned_gates k e o.turn is.adds

  abbrev chosen : ℕ
  chosen = length (places o)

  abbrev unchosen : List Gate
  unchosen = picked (λ i. not (is_chosen o i)) (drop o.first gs)

  first_in : o.first ≤ length gs
  first_in = omega (arith, is.inside.0)

  left : without gs (places o) ≡ take o.first gs ++ unchosen
  left = without_is gs o.first (places o) (omega arith, is.rising) is.inside

  pub as_many : length turned ≡ size e
  as_many = replacing.length_gates k e o.turn is.adds

  -- the first place is still one of the list's, or its end
  pub first_left : o.first ≤ length (without gs (places o))
  first_left = omega (arith, ap length left, length-append (take o.first gs) unchosen, length-take-le o.first gs first_in)

  pub others_formed : AllByRecursion (Formed k c.store.lines) (drop chosen turned)
  others_formed =
      All-drop (Formed k c.store.lines) chosen turned
      (replacing.turning k laws c.store.lines e o.turn is.adds (meets k laws c o sound is.listed) is.turn (adds_fit k c.store.lines gs c.shelf o is)).formed

  -- what is made of the list is the replacement
  pub made : with_inverses k (without gs (places o)) o.first (drop chosen turned) ≡ after_replacing k gs e o is.adds
  made =
      let front = take o.first gs in
      let long = length-take-le o.first gs first_in in
      ap (λ (xs : List Gate). with_inverses k xs o.first (drop chosen turned)) left
      ∙ ap₂ (λ (u v : List Gate). u ++ (backward k (drop chosen turned) ++ v)) (take_at front unchosen o.first long) (drop_at front unchosen o.first long)

  -- there is room, since it is shorter than what was there
  pub room : length (without gs (places o)) + length (drop chosen turned) ≤ c.store.capacity
  room =
      omega (
        arith,
        inverses_long k (without gs (places o)) o.first (drop chosen turned) first_left,
        ap length made,
        (replacing_laws k laws c.store.lines gs c.shelf o sound.gates (meets k laws c o sound is.listed) is).sum,
        bounded.fits,
      )

  -- the chosen gates taken out, and then the inverses of the other members' gates put in
  pub carried : (most : ℕ) → length gs ≤ most → (one two : StoreMeaning) (ds : List ℕ) (ms : List Member) → o.later ≡ map (λ d. o.first + d) ds
      → one ≡ with_gates c.store (without gs (o.first ∷ map (λ d. min (o.first + d) most) ds)) → map (λ (m : Member). m.gate) ms ≡ drop chosen turned
      → (AllByRecursion (λ (m : Member). Formed k one.lines m.gate) ms → o.first ≤ length one.gates → length one.gates + length ms ≤ one.capacity
      → two ≡ with_gates one (with_inverses k one.gates o.first (map (λ (m : Member). m.gate) ms)))
      → two ≡ with_gates c.store (after_replacing k gs e o is.adds)
  carried most few one two ds ms later taken others put =
      let there : (o.first ∷ map (λ d. min (o.first + d) most) ds) ≡ places o =
      ap (λ (qs : List ℕ). o.first ∷ qs) (small_places o.first most (length gs) ds few (subst (AllByRecursion (λ q. q < length gs)) later is.inside.1) ∙ sym later) in
      let at : one ≡ with_gates c.store (without gs (places o)) = taken ∙ ap (λ (qs : List ℕ). with_gates c.store (without gs qs)) there in
      let formed : AllByRecursion (λ (m : Member). Formed k c.store.lines m.gate) ms =
      all_unmapped (Formed k c.store.lines) (λ (m : Member). m.gate) ms (subst (AllByRecursion (Formed k c.store.lines)) (sym others) others_formed) in
      let put-there = subst (λ (s : StoreMeaning). AllByRecursion (λ (m : Member). Formed k s.lines m.gate) ms → o.first ≤ length s.gates → length s.gates + length ms ≤ s.capacity
      → two ≡ with_gates s (with_inverses k s.gates o.first (map (λ (m : Member). m.gate) ms))) at put in
      put-there formed first_left (omega (arith, room, ap length others, length-map ms (λ (m : Member). m.gate)))
      ∙ ap (with_gates c.store) (ap (with_inverses k (without gs (places o)) o.first) others ∙ made)
