use Rattle.std.proofs.Common.{◌≡◌, rules, tests, ◌∙◌}
use mathlib.Core.Bool.{beq}
use Rattle.std.specs.List.{list_all}
use Rattle.gates.specs.Controls.{reads}
use Rattle.std.proofs.lemmas.Iterator.{YieldsList-from_slice}
use Rattle.std.proofs.lemmas.Iterator.Search.{all_from_yields_List}
use Rattle.workspace.specs.declared.posed.Member.{Member}
use Rattle.workspace.specs.Turns.{member}
use Rattle.workspace.proofs.Asks.{fits_is}
use Rattle.workspace.proofs.asking.Asking.does_group_fit.Goals as goal

pub returns : goal.returns
returns c =
    (let is : c.all.result ≡ list_all (λ (m : Member). beq (member c.args.self.now.groups.now c.args.number m.position) (reads m.gate c.args.line)) c.args.self.now.chosen.now = all_from_yields_List (λ (m : Member). beq (member c.args.self.now.groups.now c.args.number m.position) (reads m.gate c.args.line)) _ _ _ c.all.ensures.ran (YieldsList-from_slice c.args.self.now.chosen.now cc) (λ x b q k. search (rules, tests)) in is)
    ∙ fits_is c.args.self.now.groups.now c.args.line c.args.number c.args.self.now.chosen.now
