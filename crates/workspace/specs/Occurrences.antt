-- Occurrences of shelved templates in a cascade, their keys, and what replacing one leaves.
use Rattle.std.specs.Prelude.{◌≡◌, ℕ, zero, suc, ◌+◌, ◌-◌, ◌*◌, ◌<◌, ◌≤◌, Bool, true, false, cond, ◌&&◌, ◌||◌, List, [], ◌∷◌, ◌++◌, map, length, take, drop, Some, None, Option, slice_index_or}
use Rattle.std.specs.List.{AllByRecursion}
use Rattle.std.specs.Bool.{beq}
use Rattle.gates.specs.declared.gate.Gate.{Gate}
use Rattle.gates.specs.declared.gate.Sign.{Sign}
use Rattle.gates.specs.declared.gate.Sign.TheVariants.{Positive, Negative}
use Rattle.gates.specs.Lines.{State, bit}
use Rattle.gates.specs.Controls.{gate, reads}
use Rattle.gates.specs.Kinds.{KindMeaning, Formed}
use Rattle.gates.specs.Cascades.{run}
use Rattle.workspace.specs.Templates.{TemplateMeaning, MeetsRules, size}
use Rattle.workspace.specs.TemplateTests.{all_pass}
use Rattle.workspace.specs.Turns.{Turn, IsTurn, Placed, at_position, placed, turned, member, Added, turned_gates}
use Rattle.workspace.specs.TurnTests.{has_number_lem}
use Rattle.workspace.specs.TurnTheorem.{replaced}
use Rattle.workspace.specs.Conditions.{EntryMeaning, no_entry}

-- an occurrence: the number of its template, the turn, and the places of the chosen gates, the first and the later ones
pub record Occurrence : Type 0 where
  pub first : ℕ
  pub number : ℕ
  pub turn : Turn
  pub later : List ℕ

-- all its places
abbrev pub places : Occurrence → List ℕ
places o = o.first ∷ o.later

-- its key, by which it is ranked: first place, template number, more places before fewer, forward before backward, rotation, flips,
-- the line map from line 0 on, and the later places by their distance from the first
abbrev pub key_of : Occurrence → List ℕ
key_of o =
    o.first ∷ o.number ∷ (8 - length (places o)) ∷ cond o.turn.back 1 0 ∷ o.turn.rotation ∷ o.turn.flips
    ∷ (o.turn.table ++ map (λ q. q - o.first) o.later)

-- the template of that number on the shelf
abbrev pub template_on : List EntryMeaning → Occurrence → TemplateMeaning
template_on shelf o = (slice_index_or shelf o.number no_entry).template

-- the gates at the places
abbrev pub at_places : List Gate → List ℕ → List Gate
at_places gates places = map (λ q. slice_index_or gates q (gate 0 0 0 0)) places

-- the positions of the turned template beside the chosen gates
abbrev pub beside : List Placed → List Gate → List Placed
beside [] gates = []
beside (x ∷ xs) [] = []
beside (x ∷ xs) (g ∷ gates) = at_position x.position g ∷ beside xs gates

-- some gate has the line as a control of this sign
abbrev pub some_has_lem : Sign → List Placed → ℕ → Bool
some_has_lem sign [] l = false
some_has_lem Positive (x ∷ xs) l = bit x.gate.positive l || some_has_lem Positive xs l
some_has_lem Negative (x ∷ xs) l = bit x.gate.negative l || some_has_lem Negative xs l

-- what a line outside the map asks for: nothing, one control for a group, or what no group can give
pub data Asked : Type 0 where
  nothing : Asked
  control_on : Sign → ℕ → Asked
  refused : Asked

-- the lowest of the groups from number j on that fits, of the next few
abbrev pub lowest : (ℕ → Bool) → Sign → ℕ → ℕ → Asked
lowest fits sign j zero = refused
lowest fits sign j (suc few) = cond (fits j) (control_on sign j) (lowest fits sign (suc j) few)

-- the positions of the group among the chosen gates are exactly those of the gates that have the line as a control
abbrev pub fits_group : List ℕ → List Placed → ℕ → ℕ → Bool
fits_group groups chosen l j = all_pass (λ x. beq (member groups j x.position) (reads x.gate l)) chosen

-- what line l asks for: nothing where it is in the map or no control, else a control of the sign on which all agree for the lowest group that fits
abbrev pub asks : List ℕ → List ℕ → List Placed → ℕ → Asked
asks table groups chosen l =
    let plus = some_has_lem Positive chosen l in
    let minus = some_has_lem Negative chosen l in
    cond (has_number_lem table l) nothing
    (cond (plus || minus)
    (cond (plus && minus) refused (lowest (fits_group groups chosen l) (cond plus Positive Negative) 0 (suc (length groups))))
    nothing)

-- one line's control with those of the lines below it
abbrev pub joined_to : ℕ → Asked → Option (List Added) → Option (List Added)
joined_to l nothing r = r
joined_to l (control_on sign group) None = None
joined_to l (control_on sign group) (Some adds) = Some (record { line = l; sign = sign; group = group } ∷ adds)
joined_to l refused r = None

-- the controls to add for the lines below n; none where a line asks for what no group can give
abbrev pub gathered : (ℕ → Asked) → ℕ → Option (List Added)
gathered ask zero = Some []
gathered ask (suc l) = joined_to l (ask l) (gathered ask l)

-- the controls that the occurrence adds to its template on n lines
abbrev pub additions : KindMeaning → ℕ → List Gate → TemplateMeaning → Occurrence → Option (List Added)
additions k n gates e o = gathered (asks o.turn.table e.groups (beside (turned k o.turn (placed e.gates)) (at_places gates (places o)))) n

-- the gate interchanges with each that it passes on its way to the front
abbrev pub passes : KindMeaning → List Gate → Gate → Bool
passes k [] g = true
passes k (u ∷ passed) g = k.free u g && passes k passed g

-- the chosen gates, by place, each against the unchosen gates before it
abbrev pub moves_front : KindMeaning → (ℕ → Bool) → List Gate → List Gate → Bool
moves_front k c passed [] = true
moves_front k c passed (g ∷ gates) =
    cond (c 0) (passes k passed g && moves_front k (λ i. c (suc i)) passed gates) (moves_front k (λ i. c (suc i)) (passed ++ g ∷ []) gates)

-- the place, counted from the first, is chosen
abbrev pub is_chosen : Occurrence → ℕ → Bool
is_chosen o i = has_number_lem (places o) (o.first + i)

-- strictly rising from q on
abbrev pub Rising : ℕ → List ℕ → Type 0
Rising q [] = Unit {0}
Rising q (x ∷ xs) = (q ≤ x) × Rising (suc x) xs

-- the rules of an occurrence in the gates of n lines
pub record OccursAs (k : KindMeaning) (n : ℕ) (gates : List Gate) (shelf : List EntryMeaning) (o : Occurrence) : Type 0 where
  pub listed : o.number < length shelf
  pub turn : IsTurn k n (template_on shelf o) o.turn
  -- more than half of the template's gates are chosen, and no more than it has
  pub strict : size (template_on shelf o) < 2 * length (places o)
  pub within : length (places o) ≤ size (template_on shelf o)
  -- the places rise, are places of the list, and are at most 31 behind the first
  pub rising : Rising (suc o.first) o.later
  pub inside : AllByRecursion (λ q. q < length gates) (places o)
  pub near : AllByRecursion (λ q. q ≤ o.first + 31) o.later
  -- the gates there are the first of the turned and extended template
  pub adds : List Added
  pub extension : additions k n gates (template_on shelf o) o ≡ Some adds
  pub equal : at_places gates (places o) ≡ take (length (places o)) (turned_gates k (template_on shelf o) o.turn adds)
  -- each chosen gate interchanges with every unchosen one between the first place and itself
  pub moves : moves_front k (is_chosen o) [] (drop o.first gates) ≡ true

-- the key is that of an occurrence
pub record Occurs (k : KindMeaning) (n : ℕ) (gates : List Gate) (shelf : List EntryMeaning) (key : List ℕ) : Type 0 where
  pub occurrence : Occurrence
  pub named : key ≡ key_of occurrence
  pub rules : OccursAs k n gates shelf occurrence

-- the gates that a replacement saves
abbrev pub saved : TemplateMeaning → Occurrence → ℕ
saved e o = 2 * length (places o) - size e

-- the gates after the replacement: the chosen ones go, the inverses of the template's other gates, last to first, stand at the first place, and the unchosen follow in order
abbrev pub after_replacing : KindMeaning → List Gate → TemplateMeaning → Occurrence → List Added → List Gate
after_replacing k gates e o adds = replaced k (turned_gates k e o.turn adds) o.first (length (places o)) (is_chosen o) gates

-- what a replacement keeps and saves
pub record Replaces (k : KindMeaning) (n : ℕ) (gates now : List Gate) (saves : ℕ) : Type 0 where
  pub function : (s : State) → run k now s ≡ run k gates s
  pub formed : AllByRecursion (Formed k n) now
  pub sum : length gates ≡ length now + saves
  pub some : 1 ≤ saves

-- replacing any occurrence of a template that meets the rules keeps what the cascade does for every state, and saves at least one gate
abbrev pub Replacing : KindMeaning → Type 0
Replacing k = (n : ℕ) (gates : List Gate) (shelf : List EntryMeaning) (o : Occurrence) → AllByRecursion (Formed k n) gates → MeetsRules k (template_on shelf o) → (is : OccursAs k n gates shelf o)
    → Replaces k n gates (after_replacing k gates (template_on shelf o) o is.adds) (saved (template_on shelf o) o)
