-- The table has the paths, and they rise.
use Rattle.std.proofs.Common.{◌≡◌, Some, arith}
use Rattle.js_text.proofs.Paths.{table_rises, of_table, in_table, place_fits}
use Rattle.js_text.proofs.common.common_id.Goals as goal

pub place_of-requires : goal.place_of-requires
place_of-requires c = table_rises

pub overflow_cast-result : goal.overflow_cast-result
overflow_cast-result c = omega (arith, place_fits c.in-Some.place c.args.path.now (of_table c.in-Some.place c.args.path.now c.in-Some.ensures.place))

pub returns-in-Some-clause-place : goal.returns-in-Some-clause-place
returns-in-Some-clause-place c = of_table c.in-Some.place c.args.path.now c.in-Some.ensures.place

pub returns-in-Some-clause-each : goal.returns-in-Some-clause-each
returns-in-Some-clause-each c = λ place e. let same : Some c.in-Some.place ≡ Some place = c.in-Some.ensures.each place (in_table place c.args.path.now e) in cc

pub returns-in-None-clause-each : goal.returns-in-None-clause-each
returns-in-None-clause-each c = λ place e. let same = c.in-None.ensures.each place (in_table place c.args.path.now e) in absurd (cc)
