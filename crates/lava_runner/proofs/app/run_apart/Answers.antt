use Rattle.std.proofs.Common.{IfOk}
use Rattle.lava_host.specs.Hosts.{host_world}
use Rattle.lava_runner.proofs.Isolation.{is_isolated}
use Rattle.lava_runner.proofs.app.run_apart.Goals as goal

pub returns-clause-isolates : goal.returns-clause-isolates
returns-clause-isolates g c =
    let before = host_world (g.F.Folder.stand c.args.folder.now) (g.I.Source.stand c.args.input.now) (g.O.Sink.stand c.args.out.now) (g.E.Sink.stand c.args.err.now) (g.C.Clock.stand c.args.clock.now) in
    let after = host_world (g.F.Folder.stand c.run_over.new.folder) (g.I.Source.stand c.run_over.new.input) (g.O.Sink.stand c.run_over.new.out) (g.E.Sink.stand c.run_over.new.err) (g.C.Clock.stand c.run_over.new.clock) in
    is_isolated c.each_run_isolates.ensures c.run_over.result c.args.mode c.args.dir.now c.args.app.now c.args.policy.now c.args.budget before after c.run_over.ensures
