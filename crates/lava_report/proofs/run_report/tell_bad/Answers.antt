use Rattle.std.proofs.Common.{subst}
use Rattle.lava_lines.specs.declared.status.TheConstants.{POLICY_STATUS}
use Rattle.policy_row.specs.Names.{shown_word}
use Rattle.lava_report.specs.Tells as spec
use Rattle.lava_report.proofs.run_report.tell_bad.Goals as goal

pub returns : goal.returns
returns g c =
    let before = g.E.Sink.stand c.args.err.now in
    let after = g.E.Sink.stand c.tell_words.new.err in
    subst (λ t. spec.PutsLine (spec.policy_line c.args.file t (shown_word c.args.key.now) c.args.what) POLICY_STATUS before after c.tell_words.result) c.shown.ensures
    (subst (λ t. spec.PutsLine (spec.policy_line c.args.file c.shown.result.now t c.args.what) POLICY_STATUS before after c.tell_words.result) c.shown-2.ensures c.tell_words.ensures)
