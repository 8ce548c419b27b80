use Rattle.js_traps.proofs.Enforced as enforced
use Rattle.js_traps.proofs.laws.fixed_values_stay.Goals as goal

pub returns-clause-told : goal.returns-clause-told
returns-clause-told g c = enforced.tells_fixed_values _ _

pub returns-clause-set : goal.returns-clause-set
returns-clause-set g c = enforced.sets_no_fixed_values _ _
