use Rattle.std.proofs.Common.{◌≡◌, ◌++◌, ◌≤◌, take, drop, reverse}
use Rattle.js_parser.proofs.maker.move_parts.Given as goal

abbrev pub invariant-loop-left : goal.invariant-loop-left
invariant-loop-left l =
    (reverse (take l.left l.stack) ++ l.parts ≡ reverse (take l.fn.count l.fn.stack) ++ l.fn.parts)
    × (drop l.left l.stack ≡ drop l.fn.count l.fn.stack)

abbrev pub decreases-loop-left : goal.decreases-loop-left
decreases-loop-left l = l.left
