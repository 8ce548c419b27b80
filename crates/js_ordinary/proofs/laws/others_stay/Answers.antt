use Rattle.js_ordinary.proofs.Changes_laws as changes
use Rattle.js_ordinary.proofs.laws.others_stay.Goals as goal

pub returns : goal.returns
returns g c = changes.others_stay _ _
