use Rattle.js_ordinary.proofs.Upward_laws as upward
use Rattle.js_ordinary.proofs.laws.get_and_set_go_up.Goals as goal

pub returns-clause-asked : goal.returns-clause-asked
returns-clause-asked g c = upward.prototypes_are_asked _ _

pub returns-clause-get : goal.returns-clause-get
returns-clause-get g c = upward.get_leads_up _ _

pub returns-clause-set : goal.returns-clause-set
returns-clause-set g c = upward.set_leads_up _ _
