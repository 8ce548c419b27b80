use Rattle.lava_host.specs.Hosts.{host_world}
use Rattle.lava_cli.proofs.Comes.{ended_so}
use Rattle.lava_cli.proofs.run_command.run_loaded.Goals as goal

pub returns-in-Ok : goal.returns-in-Ok
returns-in-Ok g c =
    let before = host_world (g.F.Folder.stand c.args.folder.now) (g.I.Source.stand c.args.input.now) (g.O.Sink.stand c.args.out.now) (g.E.Sink.stand c.args.err.now) (g.C.Clock.stand c.args.clock.now) in
    let after = host_world (g.F.Folder.stand c.run_app.new.folder) (g.I.Source.stand c.run_app.new.input) (g.O.Sink.stand c.run_app.new.out) (g.E.Sink.stand c.run_app.new.err) (g.C.Clock.stand c.run_app.new.clock) in
    ended_so c.args.mode c.args.directory.now c.args.loaded.now c.args.budget before after c.in-Ok.report c.packages.result.now c.ended.result c.packages.ensures c.in-Ok.ensures.runs c.ended.ensures
