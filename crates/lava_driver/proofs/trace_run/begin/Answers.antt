use Rattle.std.proofs.Common.{ap}
use Rattle.js_world.specs.Worlds.{WorldView}
use Rattle.lava_driver.proofs.Tracing.{first_traced}
use Rattle.lava_driver.proofs.trace_run.begin.Goals as goal

pub returns : goal.returns
returns c =
    λ parties start. first_traced parties c.args.world.now c.trace.new.self c.begin.new.self c.in_ok-mode.mode c.args.tracer.now c.write.new.self c.trace.ensures.rests (ap (λ (v : WorldView). v.budget) c.trace.ensures.traces) c.in_ok-mode.ensures.begins start c.in_ok-write.ensures
