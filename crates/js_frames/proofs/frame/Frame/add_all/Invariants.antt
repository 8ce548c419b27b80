use Rattle.std.proofs.Common.{◌≡◌, length}
use Rattle.js_frames.specs.Frames as spec
use Rattle.js_frames.proofs.frame.Frame.add_all.Given as goal

abbrev pub invariant-loop-list : goal.invariant-loop-list
invariant-loop-list l = spec.with_names l.self l.list ≡ spec.with_names l.fn.self l.fn.list

abbrev pub decreases-loop-list : goal.decreases-loop-list
decreases-loop-list l = length l.list
