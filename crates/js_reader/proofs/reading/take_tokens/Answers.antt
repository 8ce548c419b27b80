use Rattle.js_reader.proofs.Taking.{stuck_course, tail_all}
use Rattle.js_reader.proofs.reading.take_tokens.Goals as goal

pub returns-in-Some : goal.returns-in-Some
returns-in-Some c =
    stuck_course c.args.source.now c.loop-rest.at c.loop-rest.tree c.loop-rest.rest.now _ c.take_token.new.tree c.in_ok-halt.field-0 c.in-Some.halt _ _ _
    c.in-len1-up.len_at_least c.loop-rest.invariant.0 (tail_all c.loop-rest.rest.now) c.lexeme_of-lexeme.ensures c.in_ok-halt.ensures c.in-Some.is
