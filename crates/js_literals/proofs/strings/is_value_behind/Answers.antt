use Rattle.std.proofs.Common.{rules, ◌≡◌, ◌∙◌, ◌++◌, false, ap}
use Rattle.js_literals.specs.StringValues.{is_end, units_of_code}
use Rattle.js_literals.proofs.StringValues_laws.{same_step}
use Rattle.js_literals.proofs.strings.is_value_behind.Goals as goal

pub loop-rest-preserved : goal.loop-rest-preserved
loop-rest-preserved c =
    let going : is_end c.args.delimiter c.loop-rest.rest ≡ false = search rules in
    let same = same_step c.args.delimiter c.loop-rest.rest c.take_piece-code.new.rest c.loop-rest.wanted.now c.in-Some.left.now going c.take_piece-code.ensures.rest
    (c.in-Some.ensures ∙ ap (λ x. units_of_code x ++ c.in-Some.left.now) c.take_piece-code.ensures.code) in
    (λ e. c.loop-rest.invariant.0 (same.0 e), λ e. same.1 (c.loop-rest.invariant.1 e))
