use Rattle.policy_gen.proofs.Policies.{it_is_a_policy, its_text_is_read_as_it}
use Rattle.policy_gen.proofs.laws.generated_policy_is_a_policy.Goals as goal

pub returns-clause-kept : goal.returns-clause-kept
returns-clause-kept c = it_is_a_policy

pub returns-clause-read : goal.returns-clause-read
returns-clause-read c = its_text_is_read_as_it
