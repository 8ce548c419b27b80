-- They stand in order.
use Rattle.policy_gen.proofs.Policies.{globals_kept}
use Rattle.policy_gen.proofs.kept_keys.kept_keys.Goals as goal

pub returns-clause-kept : goal.returns-clause-kept
returns-clause-kept c = globals_kept c.in_ok-entries.entries c.in_ok-entries.ensures.in_order
