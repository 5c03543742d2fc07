-- The test decides, and what passes fits a key.
use Rattle.std.specs.Prelude.{ℕ, ◌+◌, ◌<◌, ◌≤◌, List, [], ◌∷◌, length, Decides, nat_lt, refl}
use Rattle.std.specs.List.{AllByRecursion}
use Rattle.std.proofs.Common.{arith}
use Rattle.std.proofs.lemmas.Bool.{false≢true}
use Rattle.std.proofs.lemmas.Bool.Decides.{Decides-and, Decides-ltb, Decides-eqb}
use Rattle.search.specs.Listing.{FitsKey}
use Rattle.tests_walk.specs.Triples.{Triple, triple?}

pub decides_triple : (total : ℕ) (k : List ℕ) → Decides (triple? total k) (Triple total k)
decides_triple total [] = (λ e. false≢true e, λ x. absurd x)
decides_triple total (a ∷ []) = (λ e. false≢true e, λ x. absurd x)
decides_triple total (a ∷ b ∷ []) = (λ e. false≢true e, λ x. absurd x)
decides_triple total (a ∷ b ∷ c ∷ []) =
    Decides-and (nat_lt a 4096) _ (Decides-ltb a 4096) (Decides-and (nat_lt b 64) _ (Decides-ltb b 64) (Decides-and (nat_lt c 64) _ (Decides-ltb c 64) (Decides-eqb (a + b + c) total)))
decides_triple total (a ∷ b ∷ c ∷ d ∷ rest) = (λ e. false≢true e, λ x. absurd x)

triple_short : (total : ℕ) (k : List ℕ) → Triple total k → length k ≤ 24
triple_short total [] h = absurd h
triple_short total (a ∷ []) h = absurd h
triple_short total (a ∷ b ∷ []) h = absurd h
triple_short total (a ∷ b ∷ c ∷ []) h = omega arith
triple_short total (a ∷ b ∷ c ∷ d ∷ rest) h = absurd h

triple_small : (total : ℕ) (k : List ℕ) → Triple total k → AllByRecursion (λ v. v < 65536) k
triple_small total [] h = absurd h
triple_small total (a ∷ []) h = absurd h
triple_small total (a ∷ b ∷ []) h = absurd h
triple_small total (a ∷ b ∷ c ∷ []) h = (omega (arith, h.0), (omega (arith, h.1.0), (omega (arith, h.1.1.0), tt)))
triple_small total (a ∷ b ∷ c ∷ d ∷ rest) h = absurd h

pub triple_fits : (total : ℕ) → FitsKey (triple? total) 24 65536
triple_fits total = record {
  some = refl;
  short = λ k e. triple_short total k ((decides_triple total k).0 e);
  small = λ k e. triple_small total k ((decides_triple total k).0 e);
}
