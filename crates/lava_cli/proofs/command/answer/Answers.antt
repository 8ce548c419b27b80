use Rattle.std.proofs.Common.{subst, inl, inr, refl}
use Rattle.lava_host.specs.Hosts.{host_world}
use Rattle.lava_lines.specs.Puts.{Puts}
use Rattle.lava_lines.specs.declared.status.TheConstants.{MEMORY_STATUS}
use Rattle.lava_cli.specs.Answers.{AnswersTo}
use Rattle.lava_cli.proofs.command.answer.Goals as goal

pub returns-in-Ok : goal.returns-in-Ok
returns-in-Ok g c =
    let before = host_world (g.F.Folder.stand c.args.folder.now) (g.I.Source.stand c.args.input.now) (g.O.Sink.stand c.args.out.now) (g.E.Sink.stand c.args.err.now) (g.C.Clock.stand c.args.clock.now) in
    let after = host_world (g.F.Folder.stand c.do_asked.new.folder) (g.I.Source.stand c.do_asked.new.input) (g.O.Sink.stand c.do_asked.new.out) (g.E.Sink.stand c.do_asked.new.err) (g.C.Clock.stand c.do_asked.new.clock) in
    inl (subst (λ asked. AnswersTo asked before after c.do_asked.result) c.in-Ok.ensures.asks c.do_asked.ensures)

pub returns-in-Err : goal.returns-in-Err
returns-in-Err g c = inr (record { told = subst (λ line. Puts line MEMORY_STATUS (g.E.Sink.stand c.args.err.now) (g.E.Sink.stand c.put_line.new.err) c.put_line.result) c.as_bytes.ensures.value c.put_line.ensures; rest = refl })
