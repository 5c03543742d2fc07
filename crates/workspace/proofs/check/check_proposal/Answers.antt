use Rattle.std.proofs.Common.{Some, None, rules}
use Rattle.std.specs.Result.{result_err}
use Rattle.workspace.specs.declared.refusal.TemplateRefusal.TheVariants.{Groups, Whole, Selection}
use Rattle.workspace.specs.Proposals.{proposed}
use Rattle.workspace.proofs.Deciding.{answered}
use Rattle.workspace.proofs.check.check_proposal.Goals as goal

pub returns-in_err-check_gates-clause-lawful : goal.returns-in_err-check_gates-clause-lawful
returns-in_err-check_gates-clause-lawful g c = answered g.met.K.GateKind.lawful (proposed c.args.proposal.now) (result_err c.from_residual.result) (search rules)

pub returns-then-not-are_groups_sound-clause-lawful : goal.returns-then-not-are_groups_sound-clause-lawful
returns-then-not-are_groups_sound-clause-lawful g c = answered g.met.K.GateKind.lawful (proposed c.args.proposal.now) (Some Groups) (search rules)

pub returns-then-not-does_whole_restore-clause-lawful : goal.returns-then-not-does_whole_restore-clause-lawful
returns-then-not-does_whole_restore-clause-lawful g c = answered g.met.K.GateKind.lawful (proposed c.args.proposal.now) (Some Whole) (search rules)

pub returns-then-not-do_selections_restore-clause-lawful : goal.returns-then-not-do_selections_restore-clause-lawful
returns-then-not-do_selections_restore-clause-lawful g c = answered g.met.K.GateKind.lawful (proposed c.args.proposal.now) (Some Selection) (search rules)

pub returns-clause-lawful : goal.returns-clause-lawful
returns-clause-lawful g c = answered g.met.K.GateKind.lawful (proposed c.args.proposal.now) None (search rules)
