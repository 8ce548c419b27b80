use Rattle.policy_gen.proofs.Exact.{entries_are_exact}
use Rattle.policy_gen.proofs.PlacedRows.{rows_are_exact, no_row_of_its_own}
use Rattle.policy_gen.proofs.laws.generate_is_exact.Goals as goal

pub returns-clause-entries : goal.returns-clause-entries
returns-clause-entries c = entries_are_exact

pub returns-clause-rows : goal.returns-clause-rows
returns-clause-rows c = rows_are_exact

pub returns-clause-own : goal.returns-clause-own
returns-clause-own c = no_row_of_its_own
