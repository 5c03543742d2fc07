use Rattle.std.proofs.Common.{rules, arith}
use Rattle.search.specs.Keys.{keyed}
use Rattle.workspace.specs.Holdings.{condition_of}
use Rattle.workspace.proofs.KeyNexts.{whole_found}
use Rattle.workspace.proofs.matching.HoldingsProblem.is_whole.Goals as goal

pub returns-then-len-ge-BEFORE_MAP : goal.returns-then-len-ge-BEFORE_MAP
returns-then-len-ge-BEFORE_MAP g c fits =
    whole_found g.S.Kind.GateKind.means (condition_of g.S.Store.means c.args.self.now) fits.sound.sound (keyed c.args.key.now) (omega arith)
    c.template_of_key.result c.template_of_key.ensures c.is_none_or.result _ (λ t q. search rules) c.is_none_or.ensures
