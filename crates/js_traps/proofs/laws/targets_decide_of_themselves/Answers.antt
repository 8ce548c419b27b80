use Rattle.js_traps.proofs.Enforced as enforced
use Rattle.js_traps.proofs.laws.targets_decide_of_themselves.Goals as goal

pub returns-clause-prototype : goal.returns-clause-prototype
returns-clause-prototype g c = enforced.closed_targets_keep_their_prototype _ _

pub returns-clause-extensible : goal.returns-clause-extensible
returns-clause-extensible g c = enforced.extensible_as_the_target _ _

pub returns-clause-closed : goal.returns-clause-closed
returns-clause-closed g c = enforced.closed_as_the_target _ _
