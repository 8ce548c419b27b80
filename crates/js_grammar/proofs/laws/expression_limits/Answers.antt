use Rattle.std.proofs.Common.{refl}
use Rattle.js_grammar.specs.Profile.{is_too_deep, left_out}
use Rattle.js_grammar.proofs.Expressions.{tells_deep, tells_form}
use Rattle.js_grammar.proofs.laws.expression_limits.Goals as goal

pub returns-clause-deep : goal.returns-clause-deep
returns-clause-deep c = λ x. tells_deep x (is_too_deep x) refl

pub returns-clause-forms : goal.returns-clause-forms
returns-clause-forms c = λ x. tells_form x (left_out x) refl
