use Rattle.js_desc.proofs.Wholes.{fields_complete}
use Rattle.js_desc.proofs.laws.fields_complete_a_property.Goals as goal

pub returns : goal.returns
returns g c = fields_complete _ _
