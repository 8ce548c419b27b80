use Rattle.std.proofs.Common.{rules, ◌≡◌, ◌∙◌, false, ap, length, arith}
use Rattle.js_literals.specs.StringValues.{is_end, units_of_code, value_behind}
use Rattle.js_literals.proofs.StringValues_laws.{length_step}
use Rattle.js_literals.proofs.strings.capped_len.Goals as goal

pub loop-rest-preserved : goal.loop-rest-preserved
loop-rest-preserved c =
    let going : is_end c.args.delimiter c.loop-rest.rest ≡ false = search rules in
    record {
      whole = length_step c.args.delimiter c.loop-rest.rest c.take_piece-code.new.rest (value_behind c.args.delimiter 0 c.args.start.now) c.loop-rest.len c.code_len.result c.min-len.result 1048577
          going c.take_piece-code.ensures.rest (c.code_len.ensures ∙ ap (λ x. length (units_of_code x)) c.take_piece-code.ensures.code) (search rules) c.loop-rest.invariant.whole;
      within = omega arith;
    }
