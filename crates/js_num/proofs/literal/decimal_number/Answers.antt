use Rattle.std.proofs.Common.{rules, FitsSigned, w64}
use Rattle.std.proofs.lemmas.Int.{to_z-of_z}
use Rattle.js_num.specs.Views.{parts_view}
use Rattle.js_num.proofs.Literals.{digits_read, decimal_value, decimal_large, decimal_none}
use Rattle.js_num.proofs.Results.{on_err}
use Rattle.js_num.proofs.literal.decimal_number.Goals as goal

pub returns-in_default-clause-err : goal.returns-in_default-clause-err
returns-in_default-clause-err c = λ v safe. decimal_none c.args.text.now c.in_default.ensures v

pub magnitude_of-requires-clause-integer : goal.magnitude_of-requires-clause-integer
magnitude_of-requires-clause-integer c = (digits_read c.args.text.now (parts_view c.in-Some.parts) c.in-Some.ensures).integer

pub magnitude_of-requires-clause-fraction : goal.magnitude_of-requires-clause-fraction
magnitude_of-requires-clause-fraction c = (digits_read c.args.text.now (parts_view c.in-Some.parts) c.in-Some.ensures).fraction

pub magnitude_of-requires-clause-exponent : goal.magnitude_of-requires-clause-exponent
magnitude_of-requires-clause-exponent c = (digits_read c.args.text.now (parts_view c.in-Some.parts) c.in-Some.ensures).exponent

pub returns-in_err-magnitude-clause-err : goal.returns-in_err-magnitude-clause-err
returns-in_err-magnitude-clause-err c =
    on_err c.from_residual.result (decimal_large c.args.text.now (parts_view c.in-Some.parts) c.in-Some.ensures c.in_err-magnitude.ensures.err)

pub returns-clause-ok : goal.returns-clause-ok
returns-clause-ok c =
    let fits : FitsSigned w64 c.signed_integer.result = search rules in
    rw (to_z-of_z w64 c.signed_integer.result fits, c.signed_integer.ensures.integer)
    (decimal_value c.args.text.now (parts_view c.in-Some.parts) c.in_ok-magnitude.magnitude c.in-Some.ensures c.in_ok-magnitude.ensures.ok)
