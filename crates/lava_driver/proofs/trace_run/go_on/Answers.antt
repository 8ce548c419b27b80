use Rattle.lava_driver.proofs.Tracing.{traced_on}
use Rattle.lava_driver.proofs.trace_run.go_on.Goals as goal

pub returns : goal.returns
returns c = λ parties first talks u. traced_on parties first talks c.args.world.now c.cross.new.self c.args.mode c.in_ok-turn.turn c.args.tracer.now c.note.new.self u c.in_ok-turn.ensures.crosses c.in_ok-note.ensures
