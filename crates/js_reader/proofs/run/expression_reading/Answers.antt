use Rattle.js_grammar.specs.Expressions.{expression_flat}
use Rattle.js_reader.specs.Runs.{run_course}
use Rattle.js_reader.proofs.Runs_laws.{course_comes, gives_told, gives_only}
use Rattle.js_reader.proofs.run.expression_reading.Goals as goal

pub returns-clause-told : goal.returns-clause-told
returns-clause-told c =
    gives_told c.expressions.ensures.begun c.expressions.ensures.refused c.expressions.ensures.read c.expressions.ensures.whole c.expressions.ensures.same c.expression_limits.ensures.deep c.expression_limits.ensures.forms
    c.args.source.now c.args.tokens.now c.args.end (run_course c.args.source.now c.args.end 0 expression_flat c.args.tokens.now) c.run_of.result
    (course_comes c.flatly.ensures.same c.args.source.now c.args.end c.args.tokens.now)
    c.run_of.ensures

pub returns-clause-only : goal.returns-clause-only
returns-clause-only c =
    gives_only c.args.source.now c.args.tokens.now c.args.end c.run_of.result
    (gives_told c.expressions.ensures.begun c.expressions.ensures.refused c.expressions.ensures.read c.expressions.ensures.whole c.expressions.ensures.same c.expression_limits.ensures.deep c.expression_limits.ensures.forms
    c.args.source.now c.args.tokens.now c.args.end (run_course c.args.source.now c.args.end 0 expression_flat c.args.tokens.now) c.run_of.result
    (course_comes c.flatly.ensures.same c.args.source.now c.args.end c.args.tokens.now)
    c.run_of.ensures)
