-- The unit stands at no place that the piece was looked through for.
use Rattle.std.proofs.Common.{arith}
use Rattle.js_text.proofs.Places.{not_in_piece}
use Rattle.js_text.proofs.text.Text.next_place.Goals as goal

pub returns-then-count-run-clause-before : goal.returns-then-count-run-clause-before
returns-then-count-run-clause-before c = not_in_piece c.args.self.now c.run_at-run.result.now c.args.from c.loop-at.at c.count_before-count.result c.args.unit c.run_at-run.ensures.run c.count_before-count.ensures.within c.loop-at.invariant.2 c.count_before-count.ensures.before

pub loop-at-preserved : goal.loop-at-preserved
loop-at-preserved c = (
  omega arith,
  omega arith,
  not_in_piece c.args.self.now c.run_at-run.result.now c.args.from c.loop-at.at c.count_before-count.result c.args.unit c.run_at-run.ensures.run c.count_before-count.ensures.within c.loop-at.invariant.2 c.count_before-count.ensures.before,
)
