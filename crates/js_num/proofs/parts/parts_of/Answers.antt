use Rattle.std.proofs.Common.{◌+◌, ◌<◌, ◌∙◌, ap, length, arith}
use Rattle.std.specs.Option.{option_and_then}
use Rattle.js_num.specs.Reading.{made_parts}
use Rattle.js_num.proofs.Grammar.{read_stage, made_none, made_some}
use Rattle.js_num.proofs.parts.parts_of.Goals as goal
use Rattle.js_num.proofs.parts.parts_of.Goals.{else-is_empty-via-then-is_empty+else-is_empty-2, else-is_empty-via-else-is_empty}

pub returns-in_err-down : goal.returns-in_err-down
returns-in_err-down c =
    rw c.from_residual.ensures
    (read_stage c.args.text.now _ _ _ _ _ _ c.split_sign-negative.ensures c.split_digits.ensures.digits c.split_digits.ensures.rest c.split_fraction.ensures
    ∙ ap (option_and_then (made_parts c.split_sign-negative.result.0 c.split_digits.result.0.now c.split_fraction.result.0.now)) c.in_err-down.ensures)

pub returns-then-is_empty-2 : goal.returns-then-is_empty-2
returns-then-is_empty-2 c =
    read_stage c.args.text.now _ _ _ _ _ _ c.split_sign-negative.ensures c.split_digits.ensures.digits c.split_digits.ensures.rest c.split_fraction.ensures
    ∙ ap (option_and_then (made_parts c.split_sign-negative.result.0 c.split_digits.result.0.now c.split_fraction.result.0.now)) c.in_ok-down.ensures
    ∙ made_none _ _ _ _ (grind arith)

pub returns : goal.returns
returns c =
    let some : 0 < length c.split_digits.result.0.now + length c.split_fraction.result.0.now = grind arith in
    read_stage c.args.text.now _ _ _ _ _ _ c.split_sign-negative.ensures c.split_digits.ensures.digits c.split_digits.ensures.rest c.split_fraction.ensures
    ∙ ap (option_and_then (made_parts c.split_sign-negative.result.0 c.split_digits.result.0.now c.split_fraction.result.0.now)) c.in_ok-down.ensures
    ∙ made_some _ _ _ _ some
