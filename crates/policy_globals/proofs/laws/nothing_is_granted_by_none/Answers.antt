use Rattle.policy_globals.proofs.Grant_laws as laws
use Rattle.policy_globals.proofs.laws.nothing_is_granted_by_none.Goals as goal

pub returns-clause-empty : goal.returns-clause-empty
returns-clause-empty c = laws.an_empty_row_grants_nothing

pub returns-clause-absent : goal.returns-clause-absent
returns-clause-absent c = laws.no_row_grants_nothing
