use Rattle.js_traps.proofs.Enforced as enforced
use Rattle.js_traps.proofs.laws.keys_are_those_of_the_target.Goals as goal

pub returns-clause-fixed : goal.returns-clause-fixed
returns-clause-fixed g c = enforced.tells_fixed_keys _ _

pub returns-clause-once : goal.returns-clause-once
returns-clause-once g c = enforced.keys_are_told_once _ _
