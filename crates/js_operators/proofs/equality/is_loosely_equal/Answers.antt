use Rattle.std.proofs.Common.{sym}
use Rattle.js_operators.proofs.equality.is_loosely_equal.Goals as goal

pub returns-in-None : goal.returns-in-None
returns-in-None c =
    λ read r. rw (sym c.if-is_nullish.ensures) (rw (sym c.if-is_symbol.ensures) (rw (sym c.in-None.ensures) (c.numbers_are_equal.ensures read r)))
