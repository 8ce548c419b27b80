-- A side of a join has fewer units.
use Rattle.std.proofs.Common.{◌+◌, length}
use Rattle.js_text.proofs.rope.+joined.Given as goal

abbrev pub decreases-joined : goal.decreases-joined
decreases-joined l = length l.left.now + length l.right.now
