use Rattle.js_exotic.proofs.Verdict_laws as laws
use Rattle.js_exotic.proofs.laws.exotic_invariants_hold.Goals as goal

pub returns-clause-fixed : goal.returns-clause-fixed
returns-clause-fixed g c = laws.fixed_properties_stay _ _

pub returns-clause-closed : goal.returns-clause-closed
returns-clause-closed g c = laws.closed_objects_gain_nothing _ _

pub returns-clause-still : goal.returns-clause-still
returns-clause-still g c = laws.closed_objects_stay_closed _ _
