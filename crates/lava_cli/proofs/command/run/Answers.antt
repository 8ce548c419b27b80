use Rattle.std.proofs.Common.{refl}
use Rattle.lava_host.specs.Hosts.{host_world}
use Rattle.lava_cli.proofs.command.run.Goals as goal

pub returns : goal.returns
returns g c =
    record {
      outcome = c.run_directory-outcome.result;
      mid = host_world (g.F.Folder.stand c.run_directory-outcome.new.folder) (g.I.Source.stand c.run_directory-outcome.new.input) (g.O.Sink.stand c.run_directory-outcome.new.out) (g.E.Sink.stand c.run_directory-outcome.new.err) (g.C.Clock.stand c.run_directory-outcome.new.clock);
      comes = c.run_directory-outcome.ensures;
      told = c.report_run.ensures;
      rest = refl;
    }
