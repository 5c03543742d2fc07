-- The lists at the front of records after an edit.
use Rattle.std.proofs.Common.{◌≡◌, ℕ, ◌+◌, ◌-◌, ◌<◌, ◌≤◌, List, ◌∷◌, ◌++◌, length, [], get_or, take, drop, set, sym, ap, ◌∙◌, ap₂, arith}
use Rattle.std.specs.List.{copy_within, insert}
use Rattle.std.proofs.lemmas.List.{append_assoc, drop-set-lt, drop-take, length-drop, length-take-le, set_at, take-take, take_more}
use Rattle.std.proofs.lemmas.List.Edits.{drop-paste, take-paste}
use Rattle.std.proofs.Math.Seq.{take-set-lt}

module _ {X : Type 0} (xs : List X) (n p : ℕ) where
  -- the records from a place on, up to place n, moved up by one, and a record written there
  module _ (y : X) (lt : n < length xs) (le : p ≤ n) where
    k : ℕ
    k = n - p

    up : List X
    up = copy_within xs p n (p + 1)

    end : n + 1 ≡ (p + 1) + k
    unfolding k
    end = omega arith

    inside : p + 1 ≤ length xs
    inside = omega arith

    some : k ≤ length (drop p xs)
    unfolding k
    some = omega (arith, length-drop p xs)

    moved : take (n + 1) up ≡ take p xs ++ get_or xs p y ∷ take k (drop p xs)
    unfolding k up
    moved =
        ap (λ (i : ℕ). take i up) end
        ∙ take-paste xs (p + 1) (drop p xs) k inside some
        ∙ ap (λ (r : List X). r ++ take k (drop p xs)) (take_more xs p y (omega arith))
        ∙ append_assoc (take p xs) (get_or xs p y ∷ []) (take k (drop p xs))

    pub front_inserted : take (n + 1) (set (copy_within xs p n (p + 1)) p y) ≡ insert (take n xs) p y
    unfolding k up
    front_inserted =
        take-set-lt (n + 1) up p y (omega arith)
        ∙ ap (λ (r : List X). set r p y) moved
        ∙ set_at (take p xs) (get_or xs p y) (take k (drop p xs)) y p (length-take-le p xs (omega arith))
        ∙ ap₂ (λ (u v : List X). u ++ y ∷ v)
        (sym (take-take p n xs le))
        (sym (drop-take p k xs) ∙ ap (λ (i : ℕ). drop p (take i xs)) (let e : p + k ≡ n = omega arith in e))

    pub behind_inserted : drop (n + 1) (set (copy_within xs p n (p + 1)) p y) ≡ drop (n + 1) xs
    unfolding k up
    behind_inserted =
        drop-set-lt (n + 1) up p y (omega arith)
        ∙ ap (λ (i : ℕ). drop i up) end
        ∙ drop-paste xs (p + 1) (drop p xs) k inside some
        ∙ ap (λ (i : ℕ). drop i xs) (sym end)
