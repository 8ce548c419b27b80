use Rattle.js_traps.proofs.Enforced as enforced
use Rattle.js_traps.proofs.laws.properties_fit_the_target.Goals as goal

pub returns-clause-defined : goal.returns-clause-defined
returns-clause-defined g c = enforced.definitions_fit_the_target _ _

pub returns-clause-told : goal.returns-clause-told
returns-clause-told g c = enforced.tells_fitting_properties _ _
