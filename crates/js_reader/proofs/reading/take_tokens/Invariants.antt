use Rattle.std.proofs.Common.{◌≡◌, ◌+◌, length}
use Rattle.js_reader.specs.Steps.{course}
use Rattle.js_reader.proofs.reading.take_tokens.Given as goal

abbrev pub invariant-loop-rest : goal.invariant-loop-rest
invariant-loop-rest l = (course l.source 0 l.fn.tree l.tokens ≡ course l.source l.at l.tree l.rest) × (l.at + length l.rest ≡ length l.tokens)

abbrev pub decreases-loop-rest : goal.decreases-loop-rest
decreases-loop-rest l = length l.rest
