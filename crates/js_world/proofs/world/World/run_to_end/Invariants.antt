-- So many crossings are behind the machine.
use Rattle.js_world.specs.Ends.{IsOn}
use Rattle.js_world.proofs.world.World.run_to_end.Given as goal

abbrev pub invariant-loop-i : goal.invariant-loop-i
invariant-loop-i g l = IsOn l.fn.self l.fn.mode l._i l.self l.mode
