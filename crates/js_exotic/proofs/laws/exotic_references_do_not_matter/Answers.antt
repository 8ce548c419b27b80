use Rattle.js_exotic.proofs.Renamed as renamed
use Rattle.js_exotic.proofs.laws.exotic_references_do_not_matter.Goals as goal

pub returns-clause-deciding : goal.returns-clause-deciding
returns-clause-deciding g c = renamed.references_do_not_matter _ _ _ _

pub returns-clause-resuming : goal.returns-clause-resuming
returns-clause-resuming g c = renamed.resuming_does_not_look _ _ _ _
