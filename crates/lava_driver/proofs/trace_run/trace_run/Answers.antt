use Rattle.std.proofs.Common.{refl, ◌∙◌}
use Rattle.lava_host.specs.Hosts.{host_world}
use Rattle.lava_driver.proofs.Traced_whole.{whole_so}
use Rattle.lava_driver.proofs.trace_run.trace_run.Goals as goal

pub returns : goal.returns
returns g c =
    let before = host_world (g.F.Folder.stand c.args.folder.now) (g.I.Source.stand c.args.input.now) (g.O.Sink.stand c.args.out.now) (g.E.Sink.stand c.args.err.now) (g.C.Clock.stand c.args.clock.now) in
    let mid = host_world (g.F.Folder.stand c.run_traced.new.folder) (g.I.Source.stand c.run_traced.new.input) (g.O.Sink.stand c.run_traced.new.out) (g.E.Sink.stand c.run_traced.new.err) (g.C.Clock.stand c.run_traced.new.clock) in
    let after = host_world (g.F.Folder.stand c.run_traced.new.folder) (g.I.Source.stand c.run_traced.new.input) (g.O.Sink.stand c.finish.new.out) (g.E.Sink.stand c.run_traced.new.err) (g.C.Clock.stand c.run_traced.new.clock) in
    whole_so c.finish.result c.args.parties.now c.args.dir.now c.args.world.now c.run_traced.new.world before mid after c.in_ok-ran.ran c.run_traced.new.tracer (c.in_ok-ran.ensures.traced c.args.parties.now c.in_ok-tracer.ensures) c.in_ok-begin_a_trace.ensures c.in_ok-ran.ensures.crossings (c.in_ok-as_many.ensures ∙ c.len.ensures) c.finish.ensures refl
