use Rattle.std.proofs.Common.{subst}
use Rattle.lava_lines.specs.declared.status.TheConstants.{LOADING_STATUS}
use Rattle.lava_report.specs.Tells as spec
use Rattle.lava_report.proofs.run_report.tell_source.Goals as goal

pub returns : goal.returns
returns g c =
    let before = g.E.Sink.stand c.args.err.now in
    let after = g.E.Sink.stand c.tell_syntax.new.err in
    subst (λ t. spec.PutsLine (spec.syntax_line t c.args.path.now c.args.place c.args.what.now) LOADING_STATUS before after c.tell_syntax.result) c.as_str.ensures
    (subst (λ t. spec.PutsLine (spec.syntax_line c.as_str.result.now t c.args.place c.args.what.now) LOADING_STATUS before after c.tell_syntax.result) c.as_str-2.ensures c.tell_syntax.ensures)
