use Rattle.js_ordinary.proofs.Upward_laws as upward
use Rattle.js_ordinary.proofs.laws.receivers_are_given.Goals as goal

pub returns-clause-getters : goal.returns-clause-getters
returns-clause-getters g c = upward.getters_get_the_receiver _ _

pub returns-clause-setters : goal.returns-clause-setters
returns-clause-setters g c = upward.setters_get_the_receiver _ _
