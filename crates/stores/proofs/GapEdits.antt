-- Lists around a gap: what moving the gap and editing at it leave.
use Rattle.std.proofs.Common.{◌≡◌, ℕ, suc, ◌+◌, ◌-◌, ◌<◌, ◌≤◌, ltb, List, ◌++◌, length, take, drop, set, sym, refl, ap, ◌∙◌, ap₂, arith}
use Rattle.std.specs.List.{copy_within, remove}
use Rattle.std.proofs.lemmas.List.Edits.{drop-paste, length-paste, take-paste}
use Rattle.std.proofs.lemmas.List.{append_assoc, length-append, length-drop, length-set, length-take-le, take_at, drop_at, take-set-le, drop-set-lt, drop-drop, drop-set-add, drop-take, take-append-drop, take-append-le, take-take, set-append_left, set-append_right}
use Rattle.gates.specs.declared.gate.Gate.{Gate}
use Rattle.std.proofs.lemmas.Bool.{cond_both, ltb-true, ltb-false}
use Rattle.stores.specs.Memory.{around_gap, record_of, in_memory, GapMoved}
use Rattle.std.proofs.Math.Seq.{take-set-lt}

module _ (xs : List Gate) (f b : ℕ) (within : f + b ≤ length xs) where
  front_long : length (take f xs) ≡ f
  front_long = length-take-le f xs (let h : f ≤ length xs = omega arith in h)

  pub around_long : length (around_gap xs f b) ≡ f + b
  around_long = length-append (take f xs) (drop (length xs - b) xs) ∙ omega (arith, front_long, length-drop (length xs - b) xs)

  pub write_front : (p : ℕ) (y : Gate) → p < f → around_gap (set xs p y) f b ≡ set (around_gap xs f b) p y
  write_front p y lt =
      ap (λ (n : ℕ). take f (set xs p y) ++ drop (n - b) (set xs p y)) (length-set xs p y)
      ∙ ap₂ ◌++◌ (take-set-lt f xs p y lt) (drop-set-lt (length xs - b) xs p y (let h : p < length xs - b = omega arith in h))
      ∙ sym (set-append_left (take f xs) (drop (length xs - b) xs) p y (omega (arith, front_long)))

  pub write_back : (p : ℕ) (y : Gate) → f ≤ p → p < f + b → around_gap (set xs (p + (length xs - (f + b))) y) f b ≡ set (around_gap xs f b) p y
  write_back p y le lt =
      let i = p + (length xs - (f + b)) in
      let far : i ≡ (length xs - b) + (p - f) = omega arith in
      ap (λ (n : ℕ). take f (set xs i y) ++ drop (n - b) (set xs i y)) (length-set xs i y)
      ∙ ap₂ ◌++◌ (take-set-le f xs i y (let h : f ≤ i = omega arith in h)) (ap (λ (z : ℕ). drop (length xs - b) (set xs z y)) far ∙ drop-set-add (length xs - b) xs (p - f) y)
      ∙ sym (set-append_right (take f xs) (drop (length xs - b) xs) f p y front_long le)

pub write_at : (xs : List Gate) (f b : ℕ) → f + b ≤ length xs → (p : ℕ) (y : Gate) → p < f + b → around_gap (set xs (record_of (length xs) f b p) y) f b ≡ set (around_gap xs f b) p y
write_at xs f b within p y lt =
    cond_both (ltb p f) p (p + (length xs - (f + b))) (λ x. around_gap (set xs x y) f b ≡ set (around_gap xs f b) p y)
    (λ e. write_front xs f b within p y (ltb-true p f e)) (λ e. write_back xs f b within p y (ltb-false p f e) lt)

module _ (l : ℕ) (xs : List Gate) (f b p : ℕ) (within : f + b ≤ length xs) where
  -- how many records are free
  abbrev free : ℕ
  free = length xs - (f + b)

  -- the gates from a place on go from before the gap to behind it
  pub moved_down : p ≤ f → GapMoved l xs f b l (copy_within xs p f (p + free)) p (f + b - p)
  moved_down le =
      let k = f - p in
      let to = p + free in
      let ys = copy_within xs p f to in
      let here : to ≤ length xs = omega arith in
      let some : k ≤ length (drop p xs) = omega (arith, length-drop p xs) in
      let long : length ys ≡ length xs = length-paste xs to (drop p xs) k (omega arith) some in
      let back : length ys - (f + b - p) ≡ to = omega arith in
      let moved = take k (drop p xs) ++ drop (to + k) xs in
      let whole : ys ≡ take to xs ++ moved = append_assoc (take to xs) (take k (drop p xs)) (drop (to + k) xs) in
      let reach : length (take to xs) ≡ to = length-take-le to xs here in
      let split : take p xs ++ take k (drop p xs) ≡ take f xs =
      ap₂ (λ (u v : List Gate). u ++ v) (sym (take-take p f xs le)) (sym (drop-take p k xs) ∙ ap (λ (n : ℕ). drop p (take n xs)) (let e : p + k ≡ f = omega arith in e))
      ∙ take-append-drop p (take f xs) in
      let before : take p ys ≡ take p xs = ap (take p) whole ∙ take-append-le p (take to xs) moved (omega arith) ∙ take-take p to xs (omega arith) in
      let behind : drop to ys ≡ moved = ap (drop to) whole ∙ drop_at (take to xs) moved to reach in
      let list : around_gap ys p (f + b - p) ≡ around_gap xs f b =
      ap₂ (λ (u v : List Gate). u ++ v) before
      (ap (λ (n : ℕ). drop n ys) back ∙ behind ∙ ap (λ (n : ℕ). take k (drop p xs) ++ drop n xs) (let e : to + k ≡ length xs - b = omega arith in e))
      ∙ sym (append_assoc (take p xs) (take k (drop p xs)) (drop (length xs - b) xs))
      ∙ ap (λ (r : List Gate). r ++ drop (length xs - b) xs) split in
      record { same = ap₂ (in_memory l) long list; sum = omega arith; long = long; on = refl }

  -- the gates before a place go from behind the gap to before it
  pub moved_up : f ≤ p → p ≤ f + b → GapMoved l xs f b l (copy_within xs (f + free) (p + free) f) p (f + b - p)
  moved_up ge le =
      let k = p + free - (f + free) in
      let from = f + free in
      let ys = copy_within xs from (p + free) f in
      let some : k ≤ length (drop from xs) = omega (arith, length-drop from xs) in
      let long : length ys ≡ length xs = length-paste xs f (drop from xs) k (omega arith) some in
      let last : length xs - b ≡ from = omega arith in
      let here : p ≡ f + k = omega arith in
      let before : take p ys ≡ take f xs ++ take k (drop from xs) = ap (λ (n : ℕ). take n ys) here ∙ take-paste xs f (drop from xs) k (omega arith) some in
      let rest : drop p ys ≡ drop p xs = ap (λ (n : ℕ). drop n ys) here ∙ drop-paste xs f (drop from xs) k (omega arith) some ∙ ap (λ (n : ℕ). drop n xs) (sym here) in
      let behind : drop (length ys - (f + b - p)) ys ≡ drop k (drop from xs) =
      ap (λ (n : ℕ). drop n ys) (let e : length ys - (f + b - p) ≡ p + free = omega arith in e)
      ∙ sym (drop-drop free p ys) ∙ ap (drop free) rest ∙ drop-drop free p xs
      ∙ ap (λ (n : ℕ). drop n xs) (let e : p + free ≡ from + k = omega arith in e) ∙ sym (drop-drop k from xs) in
      let list : around_gap ys p (f + b - p) ≡ around_gap xs f b =
      ap₂ (λ (u v : List Gate). u ++ v) before behind
      ∙ append_assoc (take f xs) (take k (drop from xs)) (drop k (drop from xs))
      ∙ ap (λ (r : List Gate). take f xs ++ r) (take-append-drop k (drop from xs) ∙ ap (λ (n : ℕ). drop n xs) (sym last)) in
      record { same = ap₂ (in_memory l) long list; sum = omega arith; long = long; on = refl }

-- a gate that goes out behind the gap
pub gap_removed : (xs : List Gate) (f b : ℕ) → f + suc b ≤ length xs → around_gap xs f b ≡ remove (around_gap xs f (suc b)) f
gap_removed xs f b within =
    let D = drop (length xs - suc b) xs in
    let long = front_long xs f (suc b) within in
    ap (λ (r : List Gate). take f xs ++ r)
    (ap (λ (i : ℕ). drop i xs) (let e : length xs - b ≡ length xs - suc b + 1 = omega arith in e) ∙ sym (drop-drop 1 (length xs - suc b) xs))
    ∙ sym (ap₂ ◌++◌ (take_at (take f xs) D f long)
    (ap (λ (i : ℕ). drop i (take f xs ++ D)) (let e : suc f ≡ f + 1 = omega arith in e) ∙ sym (drop-drop 1 f (take f xs ++ D)) ∙ ap (drop 1) (drop_at (take f xs) D f long)))

-- a record of the gap may hold anything
pub gap_cleared : (xs : List Gate) (f b : ℕ) (y : Gate) → f + suc b ≤ length xs → around_gap (set xs (length xs - suc b) y) f b ≡ around_gap xs f b
gap_cleared xs f b y within =
    let i = length xs - suc b in
    ap (λ (n : ℕ). take f (set xs i y) ++ drop (n - b) (set xs i y)) (length-set xs i y)
    ∙ ap₂ ◌++◌ (take-set-le f xs i y (let h : f ≤ i = omega arith in h)) (drop-set-lt (length xs - b) xs i y (let h : i < length xs - b = omega arith in h))
