use Rattle.search.proofs.Singling as singling
use Rattle.search.proofs.policies.policy_laws.Goals as goal

pub returns : goal.returns
returns c = singling.policy_laws_lem
