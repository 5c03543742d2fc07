use Rattle.std.proofs.Common.{sym, subst, arith}
use Rattle.std.proofs.lemmas.Bool.{eq-eqb}
use Rattle.search.specs.Keys.{key_size, number_limit, keyed}
use Rattle.search.specs.Listing.{Whole}
use Rattle.search.proofs.Numbers.{full_last}
use Rattle.search.proofs.branch.Branch.is_last.Goals as goal

pub returns-then-len-eq-KEY_SIZE-clause-whole : goal.returns-then-len-eq-KEY_SIZE-clause-whole
returns-then-len-eq-KEY_SIZE-clause-whole g c fits =
    let q = c.args.self.now.problem.now in
    let k = keyed c.args.key.now in
    subst (Whole (g.Q.Problem.test q) k) (sym (eq-eqb c.len.result 24 c.if-len-eq-KEY_SIZE.true)) (full_last (g.Q.Problem.test q) key_size number_limit k (g.Q.Problem.formed q fits.sound) (omega arith))
