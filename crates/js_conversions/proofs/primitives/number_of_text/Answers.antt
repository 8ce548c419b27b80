use Rattle.std.proofs.Common.{◌∙◌}
use Rattle.js_conversions.proofs.Numbers_read.{number_given}
use Rattle.js_conversions.proofs.primitives.number_of_text.Goals as goal

pub returns-in-Ok : goal.returns-in-Ok
returns-in-Ok c = λ read r.
    rw (number_given read _ _ _ r c.one_number.ensures (c.as_slice.ensures ∙ c.in_ok-units.ensures.units) c.in-Ok.ensures.ok c.in-Ok.ensures.safe) c.given_safe.ensures
