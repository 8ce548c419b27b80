use Rattle.std.proofs.Common.{sym}
use Rattle.js_operators.proofs.binary.left_primitive.Goals as goal

pub returns-then-not-takes_numbers : goal.returns-then-not-takes_numbers
returns-then-not-takes_numbers c = λ read r. rw (sym c.if-not-takes_numbers.ensures, sym c.object_of.ensures) (c.right_by.ensures read r)

pub returns-in-Is : goal.returns-in-Is
returns-in-Is c =
    λ read r.
    rw (sym c.if-not-takes_numbers.ensures, sym (c.in_ok-number_of.ensures read r), sym c.number_value.ensures, c.in-Is.is, sym c.object_of-in-Is.ensures)
    (c.right_by-in-Is.ensures read r)
