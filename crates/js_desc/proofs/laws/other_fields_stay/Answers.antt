use Rattle.js_desc.proofs.Invariants as laws
use Rattle.js_desc.proofs.laws.other_fields_stay.Goals as goal

pub returns : goal.returns
returns g c = laws.other_fields_stay _ _
