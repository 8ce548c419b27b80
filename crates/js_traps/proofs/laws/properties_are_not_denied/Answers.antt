use Rattle.js_traps.proofs.Enforced as enforced
use Rattle.js_traps.proofs.laws.properties_are_not_denied.Goals as goal

pub returns-clause-fixed : goal.returns-clause-fixed
returns-clause-fixed g c = enforced.fixed_properties_are_not_denied _ _

pub returns-clause-closed : goal.returns-clause-closed
returns-clause-closed g c = enforced.closed_targets_keep_their_properties _ _
