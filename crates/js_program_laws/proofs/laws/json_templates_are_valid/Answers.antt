use Rattle.js_program_laws.proofs.Json.{json_valid}
use Rattle.js_program_laws.proofs.laws.json_templates_are_valid.Goals as goal

pub returns : goal.returns
returns c = λ low source. json_valid low source
