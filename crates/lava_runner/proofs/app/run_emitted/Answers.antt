use Rattle.std.proofs.Common.{IfOk, true, subst}
use Rattle.lava_host.specs.Hosts.{host_world}
use Rattle.lava_runner.specs.Reports.{HasRunFrom}
use Rattle.lava_runner.proofs.Reported.{is_run}
use Rattle.lava_runner.proofs.app.run_emitted.Goals as goal

-- the packages and modules that are handed on are those of the application
pub returns : goal.returns
returns g c =
    let before = host_world (g.F.Folder.stand c.args.folder.now) (g.I.Source.stand c.args.input.now) (g.O.Sink.stand c.args.out.now) (g.E.Sink.stand c.args.err.now) (g.C.Clock.stand c.args.clock.now) in
    let after = host_world (g.F.Folder.stand c.run_packages.new.folder) (g.I.Source.stand c.run_packages.new.input) (g.O.Sink.stand c.run_packages.new.out) (g.E.Sink.stand c.run_packages.new.err) (g.C.Clock.stand c.run_packages.new.clock) in
    let k = c.run_packages.result in
    let policy = c.args.policy.now in
    let own = subst (λ ps. IfOk k (HasRunFrom true c.args.dir.now ps c.modules.result.now policy c.args.common c.args.budget before after)) c.packages.ensures c.run_packages.ensures in
    let ran = subst (λ ms. IfOk k (HasRunFrom true c.args.dir.now c.args.app.now.packages ms policy c.args.common c.args.budget before after)) c.modules.ensures own in
    is_run c.journal_is_net.ensures c.host_calls_are_crossings.ensures c.gone_at_the_newest.ensures c.runs_are_well_made.ensures c.common_part_calls_repairs.ensures k c.args.dir.now c.args.app.now policy c.args.budget before after c.args.common c.requires ran
