use Rattle.js_literals.proofs.NumericValues_laws.{mv_of_number, no_mv}
use Rattle.js_literals.proofs.numbers.value_of_units.Goals as goal

pub returns-in-Ok-clause-some : goal.returns-in-Ok-clause-some
returns-in-Ok-clause-some c = mv_of_number c.args.literal.now c.in-Ok.number c.requires c.in-Ok.ensures.ok

pub returns-in-Err-clause-none : goal.returns-in-Err-clause-none
returns-in-Err-clause-none c = no_mv c.args.literal.now c.in-Err.ensures.err
