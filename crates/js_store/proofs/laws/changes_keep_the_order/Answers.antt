use Rattle.js_store.proofs.Order_laws.{writing_keeps_the_order, removing_keeps_the_order}
use Rattle.js_store.proofs.laws.changes_keep_the_order.Goals as goal

pub returns-clause-writing : goal.returns-clause-writing
returns-clause-writing g c = writing_keeps_the_order _ _

pub returns-clause-removing : goal.returns-clause-removing
returns-clause-removing g c = removing_keeps_the_order _ _
