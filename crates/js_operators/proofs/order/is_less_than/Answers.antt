use Rattle.std.proofs.Common.{sym}
use Rattle.js_operators.proofs.order.is_less_than.Goals as goal

pub returns-in-None : goal.returns-in-None
returns-in-None c = λ read r. rw (sym c.in-None.ensures) (c.numbers_are_less.ensures read r)
