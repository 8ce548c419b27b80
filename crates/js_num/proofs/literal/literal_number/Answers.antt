use Rattle.std.proofs.Common.{inl, inr}
use Rattle.std.proofs.lemmas.Result.{on_err_weaker}
use Rattle.js_num.proofs.Literals.{decimal_none, radix_no_decimal}
use Rattle.js_num.proofs.Results.{not_empty}
use Rattle.js_num.proofs.literal.literal_number.Goals as goal

pub returns-in-Some-clause-err : goal.returns-in-Some-clause-err
returns-in-Some-clause-err c =
    on_err_weaker c.radix_number.result
    (λ h v safe literal. elim literal [
      | inl empty ↦ not_empty c.args.text.now c.if-is_empty.ensures empty.0
      | inr more ↦ elim more [
        | inl decimal ↦ decimal_none c.args.text.now (radix_no_decimal c.args.text.now _ _ c.in-Some.ensures) v decimal
        | inr radix ↦ h v safe radix
      ]
    ])
    c.radix_number.ensures.err
