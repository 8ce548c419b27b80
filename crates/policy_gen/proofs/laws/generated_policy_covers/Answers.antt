use Rattle.policy_gen.proofs.Covers.{each_use_is_covered}
use Rattle.policy_gen.proofs.Gives.{each_use_is_given}
use Rattle.policy_gen.proofs.laws.generated_policy_covers.Goals as goal

pub returns-clause-covered : goal.returns-clause-covered
returns-clause-covered c = each_use_is_covered

pub returns-clause-given : goal.returns-clause-given
returns-clause-given c = each_use_is_given
