use Rattle.policy_gen.proofs.Denies.{denials_are_exact, denials_are_in_order}
use Rattle.policy_gen.proofs.laws.denied_is_exact.Goals as goal

pub returns-clause-listed : goal.returns-clause-listed
returns-clause-listed c = denials_are_exact

pub returns-clause-order : goal.returns-clause-order
returns-clause-order c = denials_are_in_order
