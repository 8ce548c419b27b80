use Rattle.std.proofs.Common.{rules, ◌≡◌, ◌∙◌, ◌++◌, false, ap}
use Rattle.js_literals.specs.StringValues.{is_end, units_of_code, value_behind}
use Rattle.js_literals.proofs.StringValues_laws.{units_step}
use Rattle.js_literals.proofs.strings.units_behind.Goals as goal

pub loop-rest-preserved : goal.loop-rest-preserved
loop-rest-preserved c =
    let going : is_end c.args.delimiter c.loop-rest.rest ≡ false = search rules in
    units_step c.args.delimiter c.loop-rest.rest c.take_piece-code.new.rest c.loop-rest.units.items c.push_code.new.units.items (value_behind c.args.delimiter 0 c.args.start.now)
    going c.take_piece-code.ensures.rest (c.in_ok-push_code.ensures ∙ ap (λ x. c.loop-rest.units.items ++ units_of_code x) c.take_piece-code.ensures.code) c.loop-rest.invariant
