use Rattle.std.proofs.Common.{◌≡◌, ◌++◌, length, reverse}
use Rattle.js_parser.proofs.maker.turned.Given as goal

abbrev pub invariant-loop-phrase : goal.invariant-loop-phrase
invariant-loop-phrase l = reverse l.stack ++ l.parts ≡ reverse l.fn.stack

abbrev pub decreases-loop-phrase : goal.decreases-loop-phrase
decreases-loop-phrase l = length l.stack
