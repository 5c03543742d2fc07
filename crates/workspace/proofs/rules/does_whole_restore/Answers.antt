use Rattle.std.proofs.Common.{◌∙◌}
use Rattle.workspace.specs.Proposals.{template_of}
use Rattle.workspace.proofs.Stepping.{part_whole}
use Rattle.workspace.proofs.rules.does_whole_restore.Goals as goal

pub returns : goal.returns
returns g c = c.does_part_restore.ensures ∙ part_whole g.K.GateKind.means (template_of c.args.template.now)
