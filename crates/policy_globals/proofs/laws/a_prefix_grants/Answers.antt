use Rattle.policy_globals.proofs.Grant_laws as laws
use Rattle.policy_globals.proofs.laws.a_prefix_grants.Goals as goal

pub returns-clause-globals : goal.returns-clause-globals
returns-clause-globals c = laws.a_prefix_grants

pub returns-clause-builtin : goal.returns-clause-builtin
returns-clause-builtin c = laws.a_prefix_grants_of_fs
