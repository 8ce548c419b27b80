use Rattle.js_literals.proofs.NumericValues_laws.{one_mv, decimal_mv}
use Rattle.js_literals.proofs.laws.one_number_each.Goals as goal

pub returns-clause-one : goal.returns-clause-one
returns-clause-one c = one_mv

pub returns-clause-digits : goal.returns-clause-digits
returns-clause-digits c = decimal_mv
