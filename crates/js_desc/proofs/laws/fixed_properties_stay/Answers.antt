use Rattle.js_desc.proofs.Invariants as laws
use Rattle.js_desc.proofs.laws.fixed_properties_stay.Goals as goal

pub returns : goal.returns
returns g c = laws.fixed_properties_stay _ _
