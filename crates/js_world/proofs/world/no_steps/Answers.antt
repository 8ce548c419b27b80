use Rattle.std.proofs.Common.{refl}
use Rattle.js_world.proofs.First_laws.{none_added}
use Rattle.js_world.proofs.world.no_steps.Goals as goal

pub loop-i-preserved : goal.loop-i-preserved
loop-i-preserved c = none_added c.loop-i._i _ c.loop-i.steps.items _ c.loop-i.invariant c.in_ok-push.ensures.items refl
