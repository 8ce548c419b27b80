use Rattle.policy_gen.proofs.Denies.{nothing_is_denied}
use Rattle.policy_gen.proofs.laws.nothing_is_denied_of_generated.Goals as goal

pub returns : goal.returns
returns c = nothing_is_denied
