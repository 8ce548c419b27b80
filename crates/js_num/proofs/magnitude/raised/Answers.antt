use Rattle.std.proofs.Common.{◌-◌, ◌++◌, length, arith}
use Rattle.std.specs.Str.Parse.{digits_value}
use Rattle.js_num.proofs.DigitLemmas.{all_take, all_drop}
use Rattle.js_num.proofs.Point.{raised_cut, front_large, zeros_ok, zeros_err, far_ok, far_err, far_large}
use Rattle.js_num.proofs.Results.{on_err}
use Rattle.js_num.proofs.magnitude.raised.Goals as goal

pub joined-requires-clause-second : goal.joined-requires-clause-second
joined-requires-clause-second c = rw c.split_at.ensures.front (all_take 10 c.args.fraction.now _ c.requires.fraction)

pub returns-in_err-joined-clause-err : goal.returns-in_err-joined-clause-err
returns-in_err-joined-clause-err c =
    on_err c.from_residual.result (front_large _ _ _ _ _ (raised_cut c.args.integer.now c.args.fraction.now c.args.exponent.now _ _ _ c.capped-places.ensures c.if-places-fraction.true c.split_at.ensures.front c.split_at.ensures.back c.requires.fraction) c.in_err-joined.ensures.err)

pub where_zeros-requires-clause-first : goal.where_zeros-requires-clause-first
where_zeros-requires-clause-first c = rw c.split_at.ensures.back (all_drop 10 c.args.fraction.now _ c.requires.fraction)

pub returns-then-places-fraction-clause-ok : goal.returns-then-places-fraction-clause-ok
returns-then-places-fraction-clause-ok c =
    zeros_ok _ _ _ _ _ (raised_cut c.args.integer.now c.args.fraction.now c.args.exponent.now _ _ _ c.capped-places.ensures c.if-places-fraction.true c.split_at.ensures.front c.split_at.ensures.back c.requires.fraction) c.in_ok-joined.field-0 c.where_zeros.result c.in_ok-joined.ensures.ok.0 c.where_zeros.ensures.ok

pub returns-then-places-fraction-clause-err : goal.returns-then-places-fraction-clause-err
returns-then-places-fraction-clause-err c =
    zeros_err _ _ _ _ _ (raised_cut c.args.integer.now c.args.fraction.now c.args.exponent.now _ _ _ c.capped-places.ensures c.if-places-fraction.true c.split_at.ensures.front c.split_at.ensures.back c.requires.fraction) c.where_zeros.result c.where_zeros.ensures.err

pub returns-in_err-joined-2-clause-err : goal.returns-in_err-joined-2-clause-err
returns-in_err-joined-2-clause-err c =
    on_err c.from_residual-in_err-joined-2.result (far_large (digits_value 10 (c.args.integer.now ++ c.args.fraction.now)) (digits_value 10 c.args.exponent.now) (length c.args.fraction.now) (c.capped-places.result - length c.args.fraction.now) (omega arith) (omega arith) c.in_err-joined-2.ensures.err)

pub returns-clause-ok : goal.returns-clause-ok
returns-clause-ok c =
    far_ok (digits_value 10 (c.args.integer.now ++ c.args.fraction.now)) (digits_value 10 c.args.exponent.now) (length c.args.fraction.now) (c.capped-places.result - length c.args.fraction.now) (omega arith) (omega arith) c.in_ok-joined-2.field-0 c.with_zeros.result c.in_ok-joined-2.ensures.ok.0 c.with_zeros.ensures.ok

pub returns-clause-err : goal.returns-clause-err
returns-clause-err c =
    far_err (digits_value 10 (c.args.integer.now ++ c.args.fraction.now)) (digits_value 10 c.args.exponent.now) (length c.args.fraction.now) (c.capped-places.result - length c.args.fraction.now) (omega arith) (omega arith) c.in_ok-joined-2.field-0 c.with_zeros.result c.in_ok-joined-2.ensures.ok.0 c.with_zeros.ensures.err
