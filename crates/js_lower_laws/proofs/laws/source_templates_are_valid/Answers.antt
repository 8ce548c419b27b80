use Rattle.js_lower_laws.proofs.Sources.{source_valid}
use Rattle.js_lower_laws.proofs.laws.source_templates_are_valid.Goals as goal

pub returns : goal.returns
returns c = λ m x. source_valid m x
