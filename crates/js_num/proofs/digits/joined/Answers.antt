use Rattle.std.proofs.Common.{◌≡◌, ◌++◌, arith, sym, ap, ◌∙◌}
use Rattle.std.proofs.lemmas.Result.{on_err_weaker}
use Rattle.std.specs.Str.Parse.{digits_value, digits_value_after}
use Rattle.js_num.proofs.DigitLemmas.{after_append, after_ge}
use Rattle.js_num.proofs.Results.{on_err}
use Rattle.js_num.proofs.digits.joined.Goals as goal

pub returns-in_err-number-clause-err : goal.returns-in_err-number-clause-err
returns-in_err-number-clause-err c =
    on_err c.from_residual.result (omega (arith, c.in_err-number.ensures.err c.requires.first, after_append 10 0 c.args.first.now c.args.second.now, after_ge 10 (digits_value 10 c.args.first.now) c.args.second.now (omega arith)))

pub returns-clause-ok : goal.returns-clause-ok
returns-clause-ok c =
    let e : digits_value 10 (c.args.first.now ++ c.args.second.now) ≡ digits_value_after 10 c.in_ok-number.number c.args.second.now =
    after_append 10 0 c.args.first.now c.args.second.now ∙ ap (λ m. digits_value_after 10 m c.args.second.now) (sym c.in_ok-number.ensures.ok.0) in
    rw e c.with_digits-2.ensures.ok

pub returns-clause-err : goal.returns-clause-err
returns-clause-err c =
    let e : digits_value 10 (c.args.first.now ++ c.args.second.now) ≡ digits_value_after 10 c.in_ok-number.number c.args.second.now =
    after_append 10 0 c.args.first.now c.args.second.now ∙ ap (λ m. digits_value_after 10 m c.args.second.now) (sym c.in_ok-number.ensures.ok.0) in
    on_err_weaker c.with_digits-2.result (λ h. rw e (h c.requires.second)) c.with_digits-2.ensures.err
