use Rattle.search.proofs.NumberSets.{below_some, below_all}
use Rattle.search.proofs.candidates.numbers_below.Goals as goal

pub returns-then-count-lt64 : goal.returns-then-count-lt64
returns-then-count-lt64 c i l = below_some c.args.count i c.if-count-lt64.true

pub returns-else-count-lt64 : goal.returns-else-count-lt64
returns-else-count-lt64 c i l = below_all c.args.count i c.if-count-lt64.false l
