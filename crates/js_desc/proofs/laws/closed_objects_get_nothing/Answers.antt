use Rattle.js_desc.proofs.Invariants as laws
use Rattle.js_desc.proofs.laws.closed_objects_get_nothing.Goals as goal

pub returns : goal.returns
returns g c = laws.closed_objects_get_nothing _ _
