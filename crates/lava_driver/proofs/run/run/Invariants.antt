-- The machine has come as far as this, and so has the outside.
use Rattle.lava_host.specs.Hosts.{host_world}
use Rattle.lava_driver.specs.Ran.{HasComeTo}
use Rattle.lava_driver.proofs.run.run.Given as goal

abbrev pub invariant-loop-i : goal.invariant-loop-i
invariant-loop-i g l =
    HasComeTo l.fn.emit l.fn.dir l.fn.world
    (host_world (g.F.Folder.stand l.fn.folder) (g.I.Source.stand l.fn.input) (g.O.Sink.stand l.fn.out) (g.E.Sink.stand l.fn.err) (g.C.Clock.stand l.fn.clock))
    l.world l.stage.step.turn l.stage.step.failed l.stage.crossings
    (host_world (g.F.Folder.stand l.folder) (g.I.Source.stand l.input) (g.O.Sink.stand l.out) (g.E.Sink.stand l.err) (g.C.Clock.stand l.clock))
