use Rattle.std.proofs.Common.{refl, sym, subst}
use Rattle.lava_cli.specs.BigAnswers.{ReportsRan}
use Rattle.lava_cli.proofs.big_command.tell_ran.Goals as goal

pub returns-in-Some : goal.returns-in-Some
returns-in-Some g c =
    subst (λ w. ReportsRan c.args.count w c.args.ended (g.O.Sink.stand c.args.out.now) (g.O.Sink.stand c.args.out.now) (g.E.Sink.stand c.args.err.now) (g.E.Sink.stand c.report_run.new.err) c.report_run.result)
    (sym c.in-Some.is) (refl, c.report_run.ensures)

pub returns-in-None : goal.returns-in-None
returns-in-None g c =
    subst (λ w. ReportsRan c.args.count w c.args.ended (g.O.Sink.stand c.args.out.now) (g.O.Sink.stand c.put_summary-put.new.out) (g.E.Sink.stand c.args.err.now) (g.E.Sink.stand c.tell_over.new.err) c.tell_over.result)
    (sym c.in-None.is) (record { put = c.put_summary-put.result; sums = c.put_summary-put.ensures; told = c.tell_over.ensures })
