use Rattle.std.proofs.Common.{subst}
use Rattle.lava_host.specs.Hosts.{host_world}
use Rattle.lava_driver.specs.Traces.{HasTracedTo}
use Rattle.lava_driver.proofs.trace_run.go_further.Goals as goal

pub returns-in-Asks : goal.returns-in-Asks
returns-in-Asks g c =
    let before = host_world (g.F.Folder.stand c.args.folder.now) (g.I.Source.stand c.args.input.now) (g.O.Sink.stand c.args.out.now) (g.E.Sink.stand c.args.err.now) (g.C.Clock.stand c.args.clock.now) in
    λ parties first start h. c.answer.ensures parties first start c.args.step.failed (subst (λ t. HasTracedTo parties c.args.dir.now first start c.args.world.now t c.args.step.failed c.args.tracer.now before) c.in-Asks.is h)
