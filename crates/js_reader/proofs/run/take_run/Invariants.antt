use Rattle.std.proofs.Common.{◌≡◌, ◌+◌, length}
use Rattle.js_reader.specs.Runs.{run_course}
use Rattle.js_reader.proofs.run.take_run.Given as goal

abbrev pub invariant-loop-rest : goal.invariant-loop-rest
invariant-loop-rest l = (run_course l.source l.end 0 l.fn.tree l.tokens ≡ run_course l.source l.end l.at l.tree l.rest) × (l.at + length l.rest ≡ length l.tokens)

abbrev pub decreases-loop-rest : goal.decreases-loop-rest
decreases-loop-rest l = length l.rest
