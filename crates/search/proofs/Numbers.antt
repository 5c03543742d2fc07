-- A key with one number more, and notes of it.
use Rattle.std.proofs.Common.{◌≡◌, ℕ, suc, ◌+◌, ◌-◌, ◌<◌, Bool, true, cond, get_or, List, [], ◌∷◌, ◌++◌, length, sym, ap, ◌∙◌, subst, arith}
use Rattle.std.proofs.lemmas.List.{get_or_append_left, length-append, length_push}
use Rattle.std.proofs.lemmas.Bool.{lt-ltb}
use Rattle.search.specs.Keys.{key_size, with_number}
use Rattle.search.specs.Listing.{Fits, FitsKey, NotedNext, Whole}

pub with_room : (k : List ℕ) (v : ℕ) → length k < key_size → with_number k v ≡ k ++ v ∷ []
with_room k v l = ap (λ (t : Bool). cond t (k ++ v ∷ []) k) (lt-ltb (length k) key_size l)

-- a key with one number more has one number less to come
pub left_less : (k longer : List ℕ) (v : ℕ) → longer ≡ k ++ v ∷ [] → key_size - length longer ≡ key_size - (length k + 1)
left_less k longer v e = ap (λ (n : ℕ). key_size - n) (ap length e ∙ length_push k v)

pub left_more : (k : List ℕ) → length k < key_size → suc (key_size - (length k + 1)) ≡ key_size - length k
left_more k l = omega arith

-- no key that passes is longer than a full key
pub full_last : (test : List ℕ → Bool) (most limit : ℕ) (k : List ℕ) → FitsKey test most limit → length k ≡ most → Whole test k true
full_last test most limit k fits full v rest p = omega (arith, fits.short (k ++ v ∷ rest) p, length-append k (v ∷ rest))

-- the notes of a key serve for a key with one number more
pub fits_next : {X Y : Type 0} (Sound : Type 0) (started : ℕ → X → Type 0) (noted : List ℕ → Y → Type 0) (k longer : List ℕ) (v : ℕ) (start : X) (above note : Y)
    → Fits Sound started noted k start above → longer ≡ k ++ v ∷ [] → NotedNext Sound started noted longer start above note → Fits Sound started noted longer start note
fits_next Sound started noted k longer v start above note fits e next =
    let same : get_or k 0 0 ≡ get_or longer 0 0 = sym (ap (λ (j : List ℕ). get_or j 0 0) e ∙ get_or_append_left k (v ∷ []) 0 0 fits.some) in
    let first : started (get_or longer 0 0) start = subst (λ (n : ℕ). started n start) same fits.first in
    record { sound = fits.sound; some = omega (arith, ap length e, length_push k v); first = first; whole = next fits.sound k v e first fits.whole }

-- and for a key of one number, the note of no numbers
pub fits_first : {X Y : Type 0} (Sound : Type 0) (started : ℕ → X → Type 0) (noted : List ℕ → Y → Type 0) (k : List ℕ) (v : ℕ) (start : X) (above note : Y)
    → Sound → k ≡ v ∷ [] → started v start → noted [] above → NotedNext Sound started noted k start above note → Fits Sound started noted k start note
fits_first Sound started noted k v start above note sound e begun blank next =
    let first : started (get_or k 0 0) start = subst (λ (n : ℕ). started n start) (sym (ap (λ (j : List ℕ). get_or j 0 0) e)) begun in
    record { sound = sound; some = omega (arith, ap length e); first = first; whole = next sound [] v e first blank }
