use Rattle.policy_row.proofs.Merging_laws.{the_override_prevails, a_false_denies, a_false_denies_an_import, nothing_is_added}
use Rattle.policy_row.proofs.laws.the_override_prevails.Goals as goal

pub returns-clause-entries : goal.returns-clause-entries
returns-clause-entries c = the_override_prevails

pub returns-clause-denies : goal.returns-clause-denies
returns-clause-denies c = a_false_denies

pub returns-clause-imports : goal.returns-clause-imports
returns-clause-imports c = a_false_denies_an_import

pub returns-clause-added : goal.returns-clause-added
returns-clause-added c = nothing_is_added
