-- Laws of rows, and of the list of the keys that pass a test.
use Rattle.std.proofs.Common.{◌≡◌, ℕ, zero, suc, ◌+◌, ◌<◌, ◌≤◌, Bool, true, false, cond, List, [], ◌∷◌, ◌++◌, sym, refl, ap, ◌∙◌, ⊎_elim, arith}
use Rattle.std.proofs.lemmas.List.{append-nil, append_assoc}
use Rattle.std.proofs.lemmas.Bool.{cases_lt, cases_Bool}
use Rattle.search.specs.Listing.{row, alone, listed}

pub row_nil : (f : ℕ → List (List ℕ)) → row 0 f ≡ []
unfolding row
row_nil f = refl

pub row_more : (f : ℕ → List (List ℕ)) (n : ℕ) → row (n + 1) f ≡ row n f ++ f n
unfolding row
row_more f n = let same : n + 1 ≡ suc n = omega arith in ap (λ (k : ℕ). row k f) same

-- a stretch of numbers with nothing adds nothing
row_skip : (f : ℕ → List (List ℕ)) (a b : ℕ) → a ≤ b → ((v : ℕ) → a ≤ v → v < b → f v ≡ []) → row b f ≡ row a f
unfolding row
row_skip f a zero h e = let same : 0 ≡ a = omega arith in ap (λ (n : ℕ). row n f) same
row_skip f a (suc b) h e =
    ⊎_elim
    (λ (l : b < a). let same : suc b ≡ a = omega arith in ap (λ (n : ℕ). row n f) same)
    (λ (l : a ≤ b). ap (λ (ks : List (List ℕ)). row b f ++ ks) (e b l (omega arith)) ∙ append-nil (row b f) ∙ row_skip f a b l (λ v p q. e v p (omega arith)))
    (cases_lt b a)

module _ (test : List ℕ → Bool) where
  -- the keys that pass and begin with the prefix and one of the numbers below n
  abbrev pub level : ℕ → ℕ → ℕ → List ℕ → List (List ℕ)
  level limit left n prefix = row n (λ v. listed test limit left (prefix ++ v ∷ []))

  pub alone_none : (prefix : List ℕ) → test prefix ≡ false → alone test prefix ≡ []
  unfolding alone
  alone_none prefix e = ap (λ (t : Bool). cond t (prefix ∷ []) []) e

  pub alone_some : (prefix : List ℕ) → test prefix ≡ true → alone test prefix ≡ prefix ∷ []
  unfolding alone
  alone_some prefix e = ap (λ (t : Bool). cond t (prefix ∷ []) []) e

  fails : (prefix : List ℕ) → ((rest : List ℕ) → test (prefix ++ rest) ≡ true → ⊥) → test prefix ≡ false
  fails prefix h = ⊎_elim (λ (e : test prefix ≡ true). absurd (h [] (ap test (append-nil prefix) ∙ e))) (λ (e : test prefix ≡ false). e) (cases_Bool (test prefix))

  regroup : (prefix : List ℕ) (v : ℕ) (rest : List ℕ) → test ((prefix ++ v ∷ []) ++ rest) ≡ true → test (prefix ++ v ∷ rest) ≡ true
  regroup prefix v rest e = ap test (sym (append_assoc prefix (v ∷ []) rest)) ∙ e

  -- where no key with the prefix passes, nothing is listed
  listed_none : (limit left : ℕ) (prefix : List ℕ) → ((rest : List ℕ) → test (prefix ++ rest) ≡ true → ⊥) → listed test limit left prefix ≡ []
  unfolding listed
  listed_none limit zero prefix h = alone_none prefix (fails prefix h)
  listed_none limit (suc left) prefix h =
      ap (λ (ks : List (List ℕ)). ks ++ level limit left limit prefix) (alone_none prefix (fails prefix h))
      ∙ row_skip (λ v. listed test limit left (prefix ++ v ∷ [])) 0 limit (omega arith)
      (λ v _ _. listed_none limit left (prefix ++ v ∷ []) (λ rest e. h (v ∷ rest) (regroup prefix v rest e)))
      ∙ row_nil (λ v. listed test limit left (prefix ++ v ∷ []))

  -- where no key that passes has the number v next, it adds nothing
  pub under_none : (limit left v : ℕ) (prefix : List ℕ) → ((rest : List ℕ) → test (prefix ++ v ∷ rest) ≡ true → ⊥) → listed test limit left (prefix ++ v ∷ []) ≡ []
  under_none limit left v prefix without = listed_none limit left (prefix ++ v ∷ []) (λ rest e. without rest (regroup prefix v rest e))

  -- the same of the numbers from a up to b
  pub level_skip : (limit left a b : ℕ) (prefix : List ℕ) → a ≤ b → ((v : ℕ) → a ≤ v → v < b → (rest : List ℕ) → test (prefix ++ v ∷ rest) ≡ true → ⊥) → level limit left b prefix ≡ level limit left a prefix
  level_skip limit left a b prefix l without =
      row_skip (λ v. listed test limit left (prefix ++ v ∷ [])) a b l
      (λ v p q. under_none limit left v prefix (without v p q))

  -- a whole key is listed alone
  pub listed_whole : (limit left : ℕ) (prefix : List ℕ) → ((v : ℕ) (rest : List ℕ) → test (prefix ++ v ∷ rest) ≡ true → ⊥) → alone test prefix ≡ listed test limit left prefix
  unfolding listed
  listed_whole limit zero prefix h = refl
  listed_whole limit (suc left) prefix h =
      sym (append-nil (alone test prefix))
      ∙ ap (λ (ks : List (List ℕ)). alone test prefix ++ ks)
      (sym (level_skip limit left 0 limit prefix (omega arith) (λ v _ _. h v) ∙ row_nil (λ v. listed test limit left (prefix ++ v ∷ []))))

  -- a prefix that does not pass itself
  pub listed_open : (limit left : ℕ) (prefix : List ℕ) → test prefix ≡ false → level limit left limit prefix ≡ listed test limit (suc left) prefix
  unfolding listed
  listed_open limit left prefix e = ap (λ (ks : List (List ℕ)). ks ++ level limit left limit prefix) (sym (alone_none prefix e))
