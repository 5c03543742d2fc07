use Rattle.search.proofs.NumberSets.{number_added, number_beyond}
use Rattle.search.proofs.candidates.with_number.Goals as goal

pub returns-then-number-lt64 : goal.returns-then-number-lt64
returns-then-number-lt64 c i l = number_added c.args.set c.args.number i c.if-number-lt64.true

pub returns-else-number-lt64 : goal.returns-else-number-lt64
returns-else-number-lt64 c i l = number_beyond c.args.set c.args.number i c.if-number-lt64.false l
