use Rattle.js_literals.specs.StringValues.{sv}
use Rattle.js_literals.proofs.strings.string_of_bytes.Goals as goal

pub returns-in-Err-clause-too_long : goal.returns-in-Err-clause-too_long
returns-in-Err-clause-too_long c = c.not_utf8.ensures.too_long sv
