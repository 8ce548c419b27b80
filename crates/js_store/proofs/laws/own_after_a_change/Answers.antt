use Rattle.js_store.proofs.Own_laws.{written_is_own, writing_leaves_others, removed_is_gone, removing_leaves_others}
use Rattle.js_store.proofs.laws.own_after_a_change.Goals as goal

pub returns-clause-written : goal.returns-clause-written
returns-clause-written g c = written_is_own _ _

pub returns-clause-others_than_written : goal.returns-clause-others_than_written
returns-clause-others_than_written g c = writing_leaves_others _ _

pub returns-clause-removed : goal.returns-clause-removed
returns-clause-removed g c = removed_is_gone _ _

pub returns-clause-others_than_removed : goal.returns-clause-others_than_removed
returns-clause-others_than_removed g c = removing_leaves_others _ _
