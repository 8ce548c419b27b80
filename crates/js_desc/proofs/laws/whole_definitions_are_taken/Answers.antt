use Rattle.js_desc.proofs.Wholes as wholes
use Rattle.js_desc.proofs.laws.whole_definitions_are_taken.Goals as goal

pub returns : goal.returns
returns g c = wholes.whole_definitions_are_taken _ _
