use Rattle.std.proofs.Common.{subst}
use Rattle.lava_report.specs.Tells as spec
use Rattle.lava_report.proofs.run_report.tell_ended.Goals as goal

pub returns : goal.returns
returns g c =
    let before = g.E.Sink.stand c.args.err.now in
    let after = g.E.Sink.stand c.tell_ending.new.err in
    subst (λ t. spec.TellsEnding t c.args.ending c.args.uncaught before after c.tell_ending.result) c.as_str.ensures c.tell_ending.ensures
