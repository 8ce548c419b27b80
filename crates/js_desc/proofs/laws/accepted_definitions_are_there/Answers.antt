use Rattle.js_desc.proofs.Invariants as laws
use Rattle.js_desc.proofs.laws.accepted_definitions_are_there.Goals as goal

pub returns : goal.returns
returns g c = laws.accepted_definitions_are_there _ _
