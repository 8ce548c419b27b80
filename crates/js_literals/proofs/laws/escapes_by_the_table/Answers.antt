use Rattle.std.proofs.Common.{refl}
use Rattle.js_literals.proofs.Escapes_laws.{escaped_other}
use Rattle.js_literals.specs.declared.escapes.TheConstants.{SINGLE_ESCAPES}
use Rattle.js_literals.proofs.laws.escapes_by_the_table.Goals as goal

pub returns-clause-table : goal.returns-clause-table
returns-clause-table c = refl

pub returns-clause-others : goal.returns-clause-others
returns-clause-others c = λ x h. escaped_other SINGLE_ESCAPES x h
