use Rattle.js_ordinary.proofs.Ends_laws as ends
use Rattle.js_ordinary.proofs.laws.ways_up_keep_ending.Goals as goal

pub returns : goal.returns
returns g c = ends.ways_up_keep_ending _ _
