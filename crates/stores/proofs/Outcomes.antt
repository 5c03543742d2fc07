-- Outcomes of a store's calls where nothing stands in their way, and lists after an edit.
use Rattle.std.proofs.Common.{◌≡◌, ℕ, ◌<◌, ◌≤◌, Bool, true, false, cond, ltb, leb, length, set, Ok, Err, Result, sym, refl, ap, ap₂, ◌∙◌, arith}
use Rattle.std.specs.List.{insert, remove}
use Rattle.std.proofs.lemmas.Bool.{ltb-true, leb-true, lt-ltb, le-leb}
use Rattle.gates.specs.declared.gate.Gate.{Gate}
use Rattle.gates.specs.declared.gate.GateRefusal.{GateRefusal}
use Rattle.gates.specs.declared.gate.GateRefusal.TheVariants.{NotWellFormed}
use Rattle.gates.specs.Kinds.{KindMeaning, Formed}
use Rattle.gates.specs.Refusals.{gate_outcome}
use Rattle.stores.specs.declared.refusal.StoreRefusal.{StoreRefusal}
use Rattle.stores.specs.declared.refusal.StoreRefusal.TheVariants.{Gate as RefusedGate, Full, NoSuchPlace}
use Rattle.stores.specs.Stores.{StoreMeaning, Outcome, with_gates, provided, place_outcome, place_before_outcome, room_outcome, answer, after, at, read_outcome, overwrite_outcome, insert_outcome, remove_outcome}

pub provided_true : {X : Type 0} (b : Bool) (e : StoreRefusal) (r : Result X StoreRefusal) → b ≡ true → provided b e r ≡ r
provided_true b e r h = ap (λ (x : Bool). provided x e r) h

-- what checks that let through tell
passed : (b : Bool) (e : StoreRefusal) → ◌≡◌ {A = Result (Unit {0}) StoreRefusal} (Ok tt) (provided b e (Ok tt)) → b ≡ true
passed true e told = refl
passed false e told = absurd (let z : ◌≡◌ {A = ℕ} 0 1 = cc in omega arith)

pub place_told : (place count : ℕ) → ◌≡◌ {A = Result (Unit {0}) StoreRefusal} (Ok tt) (place_outcome place count) → place < count
place_told place count told = ltb-true place count (passed (ltb place count) NoSuchPlace told)

pub place_before_told : (place count : ℕ) → ◌≡◌ {A = Result (Unit {0}) StoreRefusal} (Ok tt) (place_before_outcome place count) → place ≤ count
place_before_told place count told = leb-true place count (passed (leb place count) NoSuchPlace told)

pub room_told : (count capacity : ℕ) → ◌≡◌ {A = Result (Unit {0}) StoreRefusal} (Ok tt) (room_outcome count capacity) → count < capacity
room_told count capacity told = ltb-true count capacity (passed (ltb count capacity) Full told)

pub gate_told : (k : KindMeaning) (lines : ℕ) (g : Gate) → ◌≡◌ {A = Result (Unit {0}) GateRefusal} (Ok tt) (gate_outcome k lines g) → Formed k lines g
gate_told k lines g told = by (k.form lines g) told
  where
    by : (b : Bool) → ◌≡◌ {A = Result (Unit {0}) GateRefusal} (Ok tt) (cond b (Ok tt) (Err NotWellFormed)) → b ≡ true
    by true e = refl
    by false e = absurd (let z : ◌≡◌ {A = ℕ} 0 1 = cc in omega arith)

-- a gate that passed for as many lines as these are
pub formed_told : (k : KindMeaning) (given lines : ℕ) (g : Gate) → given ≡ lines → ◌≡◌ {A = Result (Unit {0}) GateRefusal} (Ok tt) (gate_outcome k given g) → Formed k lines g
formed_told k given lines g on told = ap (λ (l : ℕ). k.form l g) (sym on) ∙ gate_told k given g told

module _ (m : StoreMeaning) (place : ℕ) where
  pub remove_ok : place < length m.gates → remove_outcome m place ≡ Ok (at m place, with_gates m (remove m.gates place))
  remove_ok lt = provided_true _ _ _ (lt-ltb place (length m.gates) lt)

-- an answer to remove tells which gate stood at the place
pub remove_told : (m : StoreMeaning) (place : ℕ) (g : Gate) → place < length m.gates → ◌≡◌ {A = Result Gate StoreRefusal} (Ok g) (answer (remove_outcome m place)) → g ≡ at m place
remove_told m place g here told = let is : ◌≡◌ {A = Result Gate StoreRefusal} (Ok g) (Ok (at m place)) = told ∙ ap answer (remove_ok m place here) in cc

-- an answer to read tells that the place is there, and which gate stands at it
pub read_told : (m : StoreMeaning) (place : ℕ) (g : Gate) → ◌≡◌ {A = Result Gate StoreRefusal} (Ok g) (read_outcome m place) → (place < length m.gates) × (g ≡ at m place)
read_told m place g told = by (ltb place (length m.gates)) refl told
  where
    by : (b : Bool) → ltb place (length m.gates) ≡ b → ◌≡◌ {A = Result Gate StoreRefusal} (Ok g) (cond b (Ok (at m place)) (Err NoSuchPlace)) → (place < length m.gates) × (g ≡ at m place)
    by true e same = (ltb-true place (length m.gates) e, cc)
    by false e same = absurd (let z : ◌≡◌ {A = ℕ} 0 1 = cc in omega arith)

module _ (k : KindMeaning) (m : StoreMeaning) (place : ℕ) (g : Gate) (formed : Formed k m.lines g) where
  pub overwrite_ok : place < length m.gates → overwrite_outcome k m place g ≡ Ok (tt, with_gates m (set m.gates place g))
  overwrite_ok lt = provided_true _ _ _ (lt-ltb place (length m.gates) lt) ∙ provided_true _ _ _ formed

  -- a well-formed gate at a place that there is: only the capacity is left to ask
  pub insert_asks : place ≤ length m.gates → insert_outcome k m place g ≡ provided (ltb (length m.gates) m.capacity) Full (Ok (tt, with_gates m (insert m.gates place g)))
  insert_asks le = provided_true _ _ _ (le-leb place (length m.gates) le) ∙ provided_true _ _ _ formed

  pub insert_ok : place ≤ length m.gates → length m.gates < m.capacity → insert_outcome k m place g ≡ Ok (tt, with_gates m (insert m.gates place g))
  insert_ok le lt = insert_asks le ∙ provided_true _ _ _ (lt-ltb (length m.gates) m.capacity lt)

-- an insertion where only the capacity is left to ask
abbrev pub unless_full : Bool → StoreMeaning → Outcome (Unit {0})
unless_full b m = provided b Full (Ok (tt, m))

through_full : (V : StoreMeaning → StoreMeaning) (m low high : StoreMeaning) → V low ≡ high → (b : Bool)
    → (answer (unless_full b low) ≡ answer (unless_full b high)) × (V (after m (unless_full b low)) ≡ after (V m) (unless_full b high))
through_full V m low high same true = (refl, same)
through_full V m low high same false = (refl, refl)

-- a call that asks one thing, seen through a mount
through_asked : {X : Type 0} (V : StoreMeaning → StoreMeaning) (m low high : StoreMeaning) (x y : X) (e : StoreRefusal) → V low ≡ high → (b : Bool)
    → V (after m (provided b e (Ok (x, low)))) ≡ after (V m) (provided b e (Ok (y, high)))
through_asked V m low high x y e same true = same
through_asked V m low high x y e same false = refl

-- an insertion where the gate and the capacity are left to ask
abbrev asked : Bool → Bool → StoreMeaning → Outcome (Unit {0})
asked formed room m = provided formed (RefusedGate NotWellFormed) (unless_full room m)

asked_told : (a b : Bool) (m : StoreMeaning) → ◌≡◌ {A = Result (Unit {0}) StoreRefusal} (Ok tt) (answer (asked a b m)) → (a ≡ true) × (b ≡ true)
asked_told true true m told = (refl, refl)
asked_told true false m told = absurd (let z : ◌≡◌ {A = ℕ} 0 1 = cc in omega arith)
asked_told false b m told = absurd (let z : ◌≡◌ {A = ℕ} 0 1 = cc in omega arith)

asked_refused : (V : StoreMeaning → StoreMeaning) (m low high : StoreMeaning) (e : StoreRefusal) (a b : Bool) → ◌≡◌ {A = Result (Unit {0}) StoreRefusal} (Err e) (answer (asked a b low))
    → V (after m (asked a b low)) ≡ after (V m) (asked a b high)
asked_refused V m low high e true true told = absurd (let z : ◌≡◌ {A = ℕ} 0 1 = cc in omega arith)
asked_refused V m low high e true false told = refl
asked_refused V m low high e false b told = refl

-- an insertion that is answered tells that the gate is well formed, and that there was room
pub insert_told : (k : KindMeaning) (m : StoreMeaning) (place : ℕ) (g : Gate) → place ≤ length m.gates → ◌≡◌ {A = Result (Unit {0}) StoreRefusal} (Ok tt) (answer (insert_outcome k m place g))
    → Formed k m.lines g × (length m.gates < m.capacity)
insert_told k m place g le told =
    let low = with_gates m (insert m.gates place g) in
    let both = asked_told (k.form m.lines g) (ltb (length m.gates) m.capacity) low (told ∙ ap answer (provided_true _ _ _ (le-leb place (length m.gates) le))) in
    (both.0, ltb-true (length m.gates) m.capacity both.1)

-- what a mount makes of a call on the store below, which has meaning m and is seen as V m, and as V of what the call leaves
module _ (k : KindMeaning) (V : StoreMeaning → StoreMeaning) (m : StoreMeaning) (p q : ℕ) where
  -- the place is there below exactly when it is there above
  pub remove_seen : ltb p (length (V m).gates) ≡ ltb q (length m.gates) → V (with_gates m (remove m.gates q)) ≡ with_gates (V m) (remove (V m).gates p)
      → V (after m (remove_outcome m q)) ≡ after (V m) (remove_outcome (V m) p)
  remove_seen there list =
      through_asked V m (with_gates m (remove m.gates q)) (with_gates (V m) (remove (V m).gates p)) (at m q) (at (V m) p) NoSuchPlace list (ltb q (length m.gates))
      ∙ sym (ap (λ (t : Bool). after (V m) (provided t NoSuchPlace (Ok (at (V m) p, with_gates (V m) (remove (V m).gates p))))) there)

  pub remove_through : p < length (V m).gates → q < length m.gates → V (with_gates m (remove m.gates q)) ≡ with_gates (V m) (remove (V m).gates p)
      → V (after m (remove_outcome m q)) ≡ after (V m) (remove_outcome (V m) p)
  remove_through here there list =
      ap (λ (o : Outcome Gate). V (after m o)) (remove_ok m q there) ∙ list ∙ sym (ap (after (V m)) (remove_ok (V m) p here))

  -- the same gate below as above, where the store below asks whether it is well formed
  module _ (y : Gate) (on : (V m).lines ≡ m.lines) where
    pub overwrite_seen : p < length (V m).gates → q < length m.gates → V (with_gates m (set m.gates q y)) ≡ with_gates (V m) (set (V m).gates p y)
        → V (after m (overwrite_outcome k m q y)) ≡ after (V m) (overwrite_outcome k (V m) p y)
    overwrite_seen here there list =
        let low = with_gates m (set m.gates q y) in
        let high = with_gates (V m) (set (V m).gates p y) in
        ap (λ (o : Outcome (Unit {0})). V (after m o)) (provided_true _ _ _ (lt-ltb q (length m.gates) there))
        ∙ through_asked V m low high tt tt (RefusedGate NotWellFormed) list (k.form m.lines y)
        ∙ ap (λ (l : ℕ). after (V m) (provided (k.form l y) (RefusedGate NotWellFormed) (Ok (tt, high)))) (sym on)
        ∙ sym (ap (after (V m)) (provided_true _ _ _ (lt-ltb p (length (V m).gates) here)))

    pub insert_refused : (e : StoreRefusal) → p ≤ length (V m).gates → q ≤ length m.gates → ltb (length m.gates) m.capacity ≡ ltb (length (V m).gates) (V m).capacity
        → ◌≡◌ {A = Result (Unit {0}) StoreRefusal} (Err e) (answer (insert_outcome k m q y)) → V (after m (insert_outcome k m q y)) ≡ after (V m) (insert_outcome k (V m) p y)
    insert_refused e here there room told =
        let low = with_gates m (insert m.gates q y) in
        let high = with_gates (V m) (insert (V m).gates p y) in
        let below = provided_true _ _ _ (le-leb q (length m.gates) there) in
        ap (λ (o : Outcome (Unit {0})). V (after m o)) below
        ∙ asked_refused V m low high e (k.form m.lines y) (ltb (length m.gates) m.capacity) (told ∙ ap answer below)
        ∙ ap₂ (λ (l : ℕ) (b : Bool). after (V m) (asked (k.form l y) b high)) (sym on) room
        ∙ sym (ap (after (V m)) (provided_true _ _ _ (le-leb p (length (V m).gates) here)))

  module _ (y z : Gate) (formed : Formed k (V m).lines y) (below-formed : Formed k m.lines z) where
    pub overwrite_through : p < length (V m).gates → q < length m.gates → V (with_gates m (set m.gates q z)) ≡ with_gates (V m) (set (V m).gates p y)
        → (answer (overwrite_outcome k m q z) ≡ answer (overwrite_outcome k (V m) p y)) × (V (after m (overwrite_outcome k m q z)) ≡ after (V m) (overwrite_outcome k (V m) p y))
    overwrite_through here there list =
        let below = overwrite_ok k m q z below-formed there in
        let above = overwrite_ok k (V m) p y formed here in
        (ap answer below ∙ sym (ap answer above), ap (λ (o : Outcome (Unit {0})). V (after m o)) below ∙ list ∙ sym (ap (after (V m)) above))

    pub insert_through : p ≤ length (V m).gates → q ≤ length m.gates → ltb (length m.gates) m.capacity ≡ ltb (length (V m).gates) (V m).capacity
        → V (with_gates m (insert m.gates q z)) ≡ with_gates (V m) (insert (V m).gates p y)
        → (answer (insert_outcome k m q z) ≡ answer (insert_outcome k (V m) p y)) × (V (after m (insert_outcome k m q z)) ≡ after (V m) (insert_outcome k (V m) p y))
    insert_through here there room list =
        let below = insert_asks k m q z below-formed there in
        let above = insert_asks k (V m) p y formed here in
        let both = through_full V m (with_gates m (insert m.gates q z)) (with_gates (V m) (insert (V m).gates p y)) list (ltb (length m.gates) m.capacity) in
        let asked = ap (λ (b : Bool). unless_full b (with_gates (V m) (insert (V m).gates p y))) room in (
          ap answer below ∙ both.0 ∙ ap answer (asked ∙ sym above),
          ap (λ (o : Outcome (Unit {0})). V (after m o)) below ∙ both.1 ∙ ap (after (V m)) (asked ∙ sym above),
        )
