use Rattle.std.proofs.Common.{subst}
use Rattle.lava_host.specs.Hosts.{host_world}
use Rattle.lava_driver.specs.Ran.{HasComeTo}
use Rattle.lava_driver.proofs.Underway.{further}
use Rattle.lava_driver.proofs.run.go_further.Goals as goal

pub returns-in-Runs : goal.returns-in-Runs
returns-in-Runs g c =
    let before = host_world (g.F.Folder.stand c.args.folder.now) (g.I.Source.stand c.args.input.now) (g.O.Sink.stand c.args.out.now) (g.E.Sink.stand c.args.err.now) (g.C.Clock.stand c.args.clock.now) in
    λ first start h. further c.go_on.result (λ s. s.step.turn) (λ s. s.step.failed) (λ s. s.crossings) c.args.emit c.args.dir.now first c.args.world.now c.go_on.new.world start before c.in-Runs.mode c.args.stage.step.failed c.args.stage.crossings
    (subst (λ t. HasComeTo c.args.emit c.args.dir.now first start c.args.world.now t c.args.stage.step.failed c.args.stage.crossings before) c.in-Runs.is h) (c.go_on.ensures.underway first) c.go_on.ensures.failed

pub returns-in-Asks : goal.returns-in-Asks
returns-in-Asks g c =
    let before = host_world (g.F.Folder.stand c.args.folder.now) (g.I.Source.stand c.args.input.now) (g.O.Sink.stand c.args.out.now) (g.E.Sink.stand c.args.err.now) (g.C.Clock.stand c.args.clock.now) in
    λ first start h. c.answer.ensures first start c.args.stage.step.failed (subst (λ t. HasComeTo c.args.emit c.args.dir.now first start c.args.world.now t c.args.stage.step.failed c.args.stage.crossings before) c.in-Asks.is h)
