use Rattle.js_store.proofs.Renamed as renamed
use Rattle.js_store.proofs.laws.references_do_not_matter.Goals as goal

pub returns : goal.returns
returns g c = renamed.references_do_not_matter _ _ _ _
