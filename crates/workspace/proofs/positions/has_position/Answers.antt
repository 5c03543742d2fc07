use Rattle.std.proofs.Common.{◌≡◌, ℕ, ◌^◌, ◌<◌, Bool, false, Ok, Err, Result, sym, ◌∙◌, ap, arith, rules}
use Rattle.std.specs.Result.{MatchResult, OkIff}
use Rattle.gates.specs.Lines.{width, bit}
use Rattle.gates.specs.Members.{bit_above}
use Rattle.workspace.proofs.positions.has_position.Goals as goal

-- a position too large for a line is in no set
in_set : {E : Type 0} (set position : ℕ) (b : Bool) (line : Result ℕ E) (Called : ℕ → Type 0) → ((x : ℕ) → Called x → b ≡ bit set x) → set < 2 ^ width
    → OkIff line (position < 256) position → MatchResult line Called (λ _. b ≡ false) → b ≡ bit set position
in_set set position b (Ok x) Called asked small is called = asked x called ∙ ap (bit set) is.1
in_set set position b (Err e) Called asked small is called = called ∙ sym (bit_above set width position small (omega (arith, is)))

pub returns : goal.returns
returns c = in_set c.args.set c.args.position c.is_ok_and.result c.try_from.result _ (λ x k. search rules) (omega arith) c.try_from.ensures c.is_ok_and.ensures
