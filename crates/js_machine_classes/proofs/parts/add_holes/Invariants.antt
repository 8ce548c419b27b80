use Rattle.std.proofs.Common.{◌+◌, ◌-◌}
use Rattle.js_machine.specs.Definitions.{GoesOnAs, HasOtherObjects}
use Rattle.js_machine_classes.proofs.parts.add_holes.Given as goal

abbrev pub invariant-loop-i : goal.invariant-loop-i
invariant-loop-i g l = GoesOnAs l.holding l.start l.count (l.start + l.i) (l.count - l.i) l.fn.machine l.machine × HasOtherObjects l.fn.machine l.machine
