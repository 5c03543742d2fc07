-- A level of the search: the keys under each number of a set that covers the next numbers are shown in turn.
use Rattle.std.proofs.Common.{◌≡◌, ℕ, zero, suc, ◌+◌, ◌-◌, ◌^◌, ◌<◌, Bool, true, false, cond, List, [], ◌∷◌, ◌++◌, length, sym, refl, ap, ap₂, ◌∙◌, append_assoc, arith}
use Rattle.std.specs.List.{flat_map}
use Rattle.std.proofs.lemmas.Bool.{true≢false}
use Rattle.std.proofs.lemmas.Grind.{flat_map-append}
use Rattle.std.proofs.lemmas.List.{append-nil}
use Rattle.gates.specs.Lines.{bit}
use Rattle.gates.specs.Members.{bit_above}
use Rattle.search.specs.declared.policy.Shown.{Shown}
use Rattle.search.specs.Keys.{key_size, number_limit, with_number}
use Rattle.search.specs.Listing.{Covers, row, listed, shown_under}
use Rattle.search.specs.Policy.{PolicyMeaning, Standing, scan}
use Rattle.search.specs.Sets.{numbers_under, numbers_in}
use Rattle.search.proofs.Numbers.{with_room, left_less, left_more}
use Rattle.search.proofs.Rows.{level, level_skip, under_none, listed_open}
use Rattle.search.proofs.Scans.{scan_append, scan_nil, scan_after_close}

-- one item more of a list was taken
pub split_next : {A : Type 0} (xs rest rest' all : List A) (x : A) → xs ++ rest ≡ all → rest ≡ x ∷ rest' → (xs ++ x ∷ []) ++ rest' ≡ all
split_next xs rest rest' all x split e = append_assoc xs (x ∷ []) rest' ∙ ap (λ (ys : List _). xs ++ ys) (sym e) ∙ split

-- where what is not in the set adds nothing
row_numbers : (f : ℕ → List (List ℕ)) (set : ℕ) → ((v : ℕ) → bit set v ≡ false → f v ≡ []) → (n : ℕ) → row n f ≡ flat_map f (numbers_under set n)
unfolding row numbers_under
row_numbers f set none zero = refl
row_numbers f set none (suc n) =
    ap₂ (λ (a b : List (List ℕ)). a ++ b) (row_numbers f set none n) (last (bit set n) refl)
    ∙ sym (flat_map-append f (numbers_under set n) (cond (bit set n) (n ∷ []) []))
  where
    last : (t : Bool) → bit set n ≡ t → f n ≡ flat_map f (cond t (n ∷ []) [])
    last true e = sym (append-nil (f n))
    last false e = none n e

module _ {Q : Type 0} (rule : PolicyMeaning) (view : Q → List ℕ → Shown) (test : Q → List ℕ → Bool) (q : Q) (prefix : List ℕ) (room : length prefix < key_size) (before : Standing (List ℕ)) where
  abbrev left : ℕ
  left = key_size - (length prefix + 1)

  -- the keys that pass and begin with the prefix and the number v
  abbrev under : ℕ → List (List ℕ)
  under v = listed (test q) number_limit left (prefix ++ v ∷ [])

  -- where the policy stands once the keys under each of these next numbers were shown
  abbrev pub SeenOf : List ℕ → Standing (List ℕ) → Type 0
  SeenOf vs now = now ≡ scan rule (view q) before (flat_map under vs)

  pub seen_none : SeenOf [] before
  seen_none = sym (scan_nil rule (view q) before)

  join : (vs ws : List ℕ) (now : Standing (List ℕ)) → SeenOf vs now → scan rule (view q) now (flat_map under ws) ≡ scan rule (view q) before (flat_map under (vs ++ ws))
  join vs ws now seen =
      ap (λ (s : Standing (List ℕ)). scan rule (view q) s (flat_map under ws)) seen
      ∙ sym (ap (scan rule (view q) before) (flat_map-append under vs ws) ∙ scan_append rule (view q) before (flat_map under vs) (flat_map under ws))

  -- the keys under one number more were shown
  pub seen_with : (vs : List ℕ) (now : Standing (List ℕ)) → SeenOf vs now → (v : ℕ) (longer : List ℕ) → longer ≡ with_number prefix v
      → (q' : Q) → q' ≡ q → (after : Standing (List ℕ)) → after ≡ shown_under rule (view q') (test q') longer now → SeenOf (vs ++ v ∷ []) after
  seen_with vs now seen v longer is q' of after e =
      let put : longer ≡ prefix ++ v ∷ [] = is ∙ with_room prefix v room in
      e
      ∙ ap (λ (u : Q). shown_under rule (view u) (test u) longer now) of
      ∙ ap (λ (j : ℕ). scan rule (view q) now (listed (test q) number_limit j longer)) (left_less prefix longer v put)
      ∙ ap (λ (k : List ℕ). scan rule (view q) now (listed (test q) number_limit left k)) put
      ∙ ap (scan rule (view q) now) (sym (append-nil (under v)))
      ∙ join vs (v ∷ []) now seen

  module _ (set : ℕ) (covers : Covers (test q) prefix set) (fits : set < 2 ^ 64) (open' : test q prefix ≡ false) (vs ws : List ℕ) (all : vs ++ ws ≡ numbers_in set) (now : Standing (List ℕ)) (seen : SeenOf vs now) where
    covered : level (test q) number_limit left number_limit prefix ≡ flat_map under (numbers_in set)
    covered =
        level_skip (test q) number_limit left 64 number_limit prefix (omega arith) (λ v l _ rest p. true≢false (sym (covers v rest p) ∙ bit_above set 64 v fits l))
        ∙ row_numbers under set (λ v e. under_none (test q) number_limit left v prefix (λ rest p. true≢false (sym (covers v rest p) ∙ e))) 64

    seen_whole : scan rule (view q) now (flat_map under ws) ≡ shown_under rule (view q) (test q) prefix before
    seen_whole =
        join vs ws now seen
        ∙ ap (λ (us : List ℕ). scan rule (view q) before (flat_map under us)) all
        ∙ ap (scan rule (view q) before) (sym covered ∙ listed_open (test q) number_limit left prefix open')
        ∙ ap (λ (j : ℕ). scan rule (view q) before (listed (test q) number_limit j prefix)) (left_more prefix room)

    -- none is left
    pub seen_all : ws ≡ [] → now ≡ shown_under rule (view q) (test q) prefix before
    seen_all none = sym (ap (λ (us : List ℕ). scan rule (view q) now (flat_map under us)) none ∙ scan_nil rule (view q) now) ∙ seen_whole

    -- a close ends it
    pub seen_end : now.closed ≡ true → now ≡ shown_under rule (view q) (test q) prefix before
    seen_end closed = scan_after_close rule (view q) now (flat_map under ws) closed ∙ seen_whole
