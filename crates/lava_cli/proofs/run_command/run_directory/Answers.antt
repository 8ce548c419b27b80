use Rattle.std.proofs.Common.{refl}
use Rattle.lava_host.specs.Hosts.{host_world}
use Rattle.lava_cli.proofs.Comes.{ran_so}
use Rattle.lava_cli.proofs.run_command.run_directory.Goals as goal

pub returns-in-Ok : goal.returns-in-Ok
returns-in-Ok g c =
    let before = host_world (g.F.Folder.stand c.args.folder.now) (g.I.Source.stand c.args.input.now) (g.O.Sink.stand c.args.out.now) (g.E.Sink.stand c.args.err.now) (g.C.Clock.stand c.args.clock.now) in
    let mid = host_world (g.F.Folder.stand c.load_application.new.folder) (g.I.Source.stand c.args.input.now) (g.O.Sink.stand c.args.out.now) (g.E.Sink.stand c.args.err.now) (g.C.Clock.stand c.args.clock.now) in
    let after = host_world (g.F.Folder.stand c.run_loaded-outcome.new.folder) (g.I.Source.stand c.run_loaded-outcome.new.input) (g.O.Sink.stand c.run_loaded-outcome.new.out) (g.E.Sink.stand c.run_loaded-outcome.new.err) (g.C.Clock.stand c.run_loaded-outcome.new.clock) in
    ran_so c.args.mode c.args.directory.now c.args.budget before mid after c.in-Ok.loaded c.run_loaded-outcome.result c.in-Ok.ensures.loads (record { rest = refl; told = c.in-Ok.ensures.tells; counts = c.in-Ok.ensures.counts }) c.run_loaded-outcome.ensures
