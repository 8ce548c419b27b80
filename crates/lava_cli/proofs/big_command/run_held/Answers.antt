use Rattle.std.proofs.Common.{refl, subst}
use Rattle.lava_big.specs.BigFiles.{held_stand}
use Rattle.lava_big.specs.declared.texts.TheConstants.{BIG_DIRECTORY}
use Rattle.lava_host.specs.Hosts.{host_world}
use Rattle.lava_runner.specs.lava_report.declared.report.Mode.TheVariants as mode
use Rattle.lava_streams.specs.Files.{Files}
use Rattle.lava_cli.specs.RunAnswers.{RunComes}
use Rattle.lava_cli.proofs.big_command.run_held.Goals as goal

pub returns : goal.returns
returns g c = λ caller.
    let mid = host_world (held_stand c.run_directory-outcome.new.folder) (g.I.Source.stand c.run_directory-outcome.new.input) (g.O.Sink.stand c.run_directory-outcome.new.out) (g.E.Sink.stand c.run_directory-outcome.new.err) (g.C.Clock.stand c.run_directory-outcome.new.clock) in
    let after = host_world caller (g.I.Source.stand c.run_directory-outcome.new.input) (g.O.Sink.stand c.tell_big.new.out) (g.E.Sink.stand c.tell_big.new.err) (g.C.Clock.stand c.run_directory-outcome.new.clock) in
    record {
      outcome = c.run_directory-outcome.result;
      mid = mid;
      comes = subst (λ (files : Files). RunComes mode.Emit BIG_DIRECTORY.now c.args.budget (host_world (held_stand files) (g.I.Source.stand c.args.input.now) (g.O.Sink.stand c.args.out.now) (g.E.Sink.stand c.args.err.now) (g.C.Clock.stand c.args.clock.now)) mid c.run_directory-outcome.result) c.requires c.run_directory-outcome.ensures;
      still = refl {a = 0};
      told = c.tell_big.ensures;
      rest = refl {a = after};
    }
