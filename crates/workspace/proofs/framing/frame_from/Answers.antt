use Rattle.std.proofs.Common.{◌-◌, ◌^◌, ℕ, refl, min, get_or, rules, ◌∙◌, ap₂, arith}
use Rattle.std.proofs.lemmas.Iterator.{YieldsList-from_range, YieldsList-from_map}
use Rattle.std.proofs.lemmas.Iterator.Consumers.{YieldsList-at}
use Rattle.gates.specs.Controls.{gate}
use Rattle.fixed_list.proofs.Collecting.{collected_is}
use Rattle.workspace.proofs.Frames.{frame_loaded, read_any}
use Rattle.workspace.proofs.framing.frame_from.Goals as goal

pub returns : goal.returns
returns g c =
    let m = g.S.Store.means c.args.store.now in
    frame_loaded m.gates _ c.args.first c.min-end.result (2 ^ 64 - 1) (c.min-end.ensures ∙ ap₂ min c.count.ensures c.saturating_add.ensures) (omega (arith, c.count.ensures, c.count.type_inv))
    (collected_is c.collected.ensures
    (YieldsList-from_map _ (λ (q : ℕ). get_or m.gates q (gate 0 0 0 0))
    (YieldsList-at c.map-gates.ensures.source (YieldsList-from_range c.args.first c.min-end.result (c.min-end.result - c.args.first) refl refl))
    c.map-gates.ensures.closure
    (λ x r q k. search (rules, read_any m x))))
