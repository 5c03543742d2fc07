-- The templates that values in memory stand for.
use Rattle.fixed_list.specs.Lists.{contents}
use Rattle.workspace.specs.declared.template.Proposal.{Proposal}
use Rattle.workspace.specs.declared.template.Template.{Template}
use Rattle.workspace.specs.Templates.{TemplateMeaning}

-- what a proposal proposes
abbrev pub proposed : Proposal → TemplateMeaning
proposed p = record { lines = p.lines; gates = p.gates.now; groups = p.groups.now }

-- the template that a value holds
abbrev pub template_of : Template → TemplateMeaning
template_of t = record { lines = t.lines; gates = contents t.gates; groups = contents t.groups }
