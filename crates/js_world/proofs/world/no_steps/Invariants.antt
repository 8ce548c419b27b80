-- So many parties have taken none.
use Rattle.std.proofs.Common.{◌≡◌, replicate}
use Rattle.js_world.proofs.world.no_steps.Given as goal

abbrev pub invariant-loop-i : goal.invariant-loop-i
invariant-loop-i l = l.steps.items ≡ replicate l._i 0
