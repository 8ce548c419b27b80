use Rattle.policy_gen.proofs.Covers.{no_less_covers}
use Rattle.policy_gen.proofs.laws.generated_policy_is_least.Goals as goal

pub returns : goal.returns
returns c = no_less_covers
