use Rattle.std.proofs.Common.{map, string_bytes}
use Rattle.lava_host.specs.Hosts.{host_world}
use Rattle.lava_words.specs.Words.{command_of}
use Rattle.lava_cli.proofs.Decides.{decides}
use Rattle.lava_cli.proofs.Finishes.{finishes}
use Rattle.lava_cli.proofs.Isolation.{isolates}
use Rattle.lava_cli.proofs.command.lava.Goals as goal

pub returns-clause-decides : goal.returns-clause-decides
returns-clause-decides g c =
    let before = host_world (g.F.Folder.stand c.args.folder.now) (g.I.Source.stand c.args.input.now) (g.O.Sink.stand c.args.out.now) (g.E.Sink.stand c.args.err.now) (g.C.Clock.stand c.args.clock.now) in
    let after = host_world (g.F.Folder.stand c.answer.new.folder) (g.I.Source.stand c.answer.new.input) (g.O.Sink.stand c.answer.new.out) (g.E.Sink.stand c.answer.new.err) (g.C.Clock.stand c.answer.new.clock) in
    decides c.one_loading.ensures (command_of (map string_bytes c.args.words.now)) before after c.answer.result c.answer.ensures

pub returns-clause-finishes : goal.returns-clause-finishes
returns-clause-finishes g c =
    let before = host_world (g.F.Folder.stand c.args.folder.now) (g.I.Source.stand c.args.input.now) (g.O.Sink.stand c.args.out.now) (g.E.Sink.stand c.args.err.now) (g.C.Clock.stand c.args.clock.now) in
    let after = host_world (g.F.Folder.stand c.answer.new.folder) (g.I.Source.stand c.answer.new.input) (g.O.Sink.stand c.answer.new.out) (g.E.Sink.stand c.answer.new.err) (g.C.Clock.stand c.answer.new.clock) in
    finishes c.each_run_isolates.ensures (command_of (map string_bytes c.args.words.now)) before after c.answer.result c.answer.ensures

pub returns-clause-isolates : goal.returns-clause-isolates
returns-clause-isolates g c =
    let before = host_world (g.F.Folder.stand c.args.folder.now) (g.I.Source.stand c.args.input.now) (g.O.Sink.stand c.args.out.now) (g.E.Sink.stand c.args.err.now) (g.C.Clock.stand c.args.clock.now) in
    let after = host_world (g.F.Folder.stand c.answer.new.folder) (g.I.Source.stand c.answer.new.input) (g.O.Sink.stand c.answer.new.out) (g.E.Sink.stand c.answer.new.err) (g.C.Clock.stand c.answer.new.clock) in
    isolates c.each_run_isolates.ensures (command_of (map string_bytes c.args.words.now)) before after c.answer.result c.answer.ensures
