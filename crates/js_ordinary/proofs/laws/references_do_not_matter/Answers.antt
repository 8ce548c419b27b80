use Rattle.js_ordinary.proofs.Renamed as renamed
use Rattle.js_ordinary.proofs.laws.references_do_not_matter.Goals as goal

pub returns-clause-deciding : goal.returns-clause-deciding
returns-clause-deciding g c = renamed.references_do_not_matter _ _ _ _

pub returns-clause-resuming : goal.returns-clause-resuming
returns-clause-resuming g c = renamed.resuming_does_not_look _ _ _ _
