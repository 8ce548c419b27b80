use Rattle.js_literals.specs.StringValues.{tv}
use Rattle.js_literals.proofs.strings.template_of_bytes.Goals as goal

pub returns-in-Err-clause-too_long : goal.returns-in-Err-clause-too_long
returns-in-Err-clause-too_long c = c.not_utf8.ensures.too_long tv
