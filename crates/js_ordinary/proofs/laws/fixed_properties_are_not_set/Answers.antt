use Rattle.js_ordinary.proofs.Upward_laws as upward
use Rattle.js_ordinary.proofs.laws.fixed_properties_are_not_set.Goals as goal

pub returns : goal.returns
returns g c = upward.fixed_properties_are_not_set _ _
