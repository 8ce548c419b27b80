use Rattle.js_expr.proofs.Exactness.{is_its_number}
use Rattle.js_expr.proofs.numbers.numbers_are_exact.Goals as goal

pub returns : goal.returns
returns c = λ literal v. is_its_number literal v
