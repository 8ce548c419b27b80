use Rattle.js_num.proofs.DigitLemmas.{all_take, all_drop}
use Rattle.js_num.proofs.Point.{lowered_cut, front_large, zeros_ok, zeros_err}
use Rattle.js_num.proofs.Results.{on_err}
use Rattle.js_num.proofs.magnitude.lowered.Goals as goal

pub joined-requires-clause-first : goal.joined-requires-clause-first
joined-requires-clause-first c = rw c.split_at.ensures.front (all_take 10 c.args.integer.now _ c.requires.integer)

pub returns-in_err-joined-clause-err : goal.returns-in_err-joined-clause-err
returns-in_err-joined-clause-err c =
    on_err c.from_residual.result (front_large _ _ _ _ _ (lowered_cut c.args.integer.now c.args.fraction.now c.args.exponent.now _ _ _ c.capped-places.ensures c.split_at.ensures.front c.split_at.ensures.back c.requires.integer c.requires.fraction) c.in_err-joined.ensures.err)

pub where_zeros-requires-clause-first : goal.where_zeros-requires-clause-first
where_zeros-requires-clause-first c = rw c.split_at.ensures.back (all_drop 10 c.args.integer.now _ c.requires.integer)

pub returns-clause-ok : goal.returns-clause-ok
returns-clause-ok c =
    zeros_ok _ _ _ _ _ (lowered_cut c.args.integer.now c.args.fraction.now c.args.exponent.now _ _ _ c.capped-places.ensures c.split_at.ensures.front c.split_at.ensures.back c.requires.integer c.requires.fraction) c.in_ok-joined.field-0 c.where_zeros.result c.in_ok-joined.ensures.ok.0 c.where_zeros.ensures.ok

pub returns-clause-err : goal.returns-clause-err
returns-clause-err c =
    zeros_err _ _ _ _ _ (lowered_cut c.args.integer.now c.args.fraction.now c.args.exponent.now _ _ _ c.capped-places.ensures c.split_at.ensures.front c.split_at.ensures.back c.requires.integer c.requires.fraction) c.where_zeros.result c.where_zeros.ensures.err
