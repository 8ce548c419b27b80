use Rattle.js_ordinary.proofs.Invariants_laws as invariants
use Rattle.js_ordinary.proofs.laws.invariants_hold.Goals as goal

pub returns-clause-fixed : goal.returns-clause-fixed
returns-clause-fixed g c = invariants.fixed_properties_stay _ _

pub returns-clause-closed : goal.returns-clause-closed
returns-clause-closed g c = invariants.closed_objects_gain_nothing _ _

pub returns-clause-still : goal.returns-clause-still
returns-clause-still g c = invariants.closed_objects_stay_closed _ _
