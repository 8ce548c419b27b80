use Rattle.std.proofs.Common.{rules, FitsSigned, w64}
use Rattle.std.proofs.lemmas.Int.{to_z-of_z}
use Rattle.js_num.proofs.Trimming.{trimmed_so, trimmed_only}
use Rattle.js_num.proofs.Results.{on_err}
use Rattle.js_num.proofs.safe.Safe.from_text.Goals as goal

pub returns-in_err-literal_number-clause-err : goal.returns-in_err-literal_number-clause-err
returns-in_err-literal_number-clause-err c =
    on_err c.from_residual.result
    (λ v safe number. c.in_err-literal_number.ensures.err v safe (trimmed_only c.args.units.now _ _ v c.without_leading_white.ensures c.without_trailing_white-literal.ensures number))

pub returns-clause-ok : goal.returns-clause-ok
returns-clause-ok c =
    let fits : FitsSigned w64 c.in_ok-literal_number.field-0 = search rules in
    rw (to_z-of_z w64 c.in_ok-literal_number.field-0 fits)
    (trimmed_so c.args.units.now _ _ c.in_ok-literal_number.field-0 c.without_leading_white.ensures c.without_trailing_white-literal.ensures c.in_ok-literal_number.ensures.ok)
