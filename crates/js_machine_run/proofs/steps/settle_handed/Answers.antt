use Rattle.js_machine_run.proofs.Handed.{stays_further}
use Rattle.js_machine_run.proofs.steps.settle_handed.Goals as goal

pub loop-i-preserved : goal.loop-i-preserved
loop-i-preserved g c = stays_further c.args.mode c.loop-i.mode c.in_ok-mode.mode c.args.machine.now c.loop-i.machine c.hand.new.machine c.loop-i.invariant c.in_ok-mode.ensures
