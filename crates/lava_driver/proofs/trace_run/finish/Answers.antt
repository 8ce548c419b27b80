use Rattle.std.proofs.Common.{refl, ap, ◌∙◌, ◌++◌, ◌<◌, ◌≤◌, ◌^◌, length, subst}
use Rattle.lava_journal.specs.Lines.{end_text}
use Rattle.lava_driver.specs.Traces.{IsInBounds, PutsText, TraceText}
use Rattle.lava_driver.specs.declared.trace.TheConstants.{MAX_TEXT}
use Rattle.lava_driver.proofs.trace_run.finish.Goals as goal

pub returns : goal.returns
returns g c =
    let before = g.O.Sink.stand c.args.out.now in
    let after = g.O.Sink.stand c.put_text-failed.new.out in
    let told = c.in_ok-told.told in
    let text = c.args.tracer.now.text in
    let count = c.args.tracer.now.count in
    let ended = c.in_ok-end.ensures.written in
    let written = c.text.ensures ∙ ap (λ (t : TraceText). t.text) ended ∙ ap (λ s. text ++ end_text s told) c.steps.ensures in
    let crossings = c.count.ensures.count ∙ ap (λ (t : TraceText). t.count) ended in
    record {
      ending = refl;
      told = told;
      tells = c.in_ok-told.ensures;
      puts = subst (λ t. PutsText t c.args.ran.failed c.put_text-failed.result before after) written c.put_text-failed.ensures;
      crossings = crossings;
      bounds =
          subst (λ s. IsInBounds (text ++ end_text s told) s told count) c.steps.ensures
          (record {
            total = c.in_ok-end.ensures.total;
            party = c.in_ok-end.ensures.party;
            counted = subst (λ n. n < 2 ^ 64) (ap (λ (t : TraceText). t.count) ended) c.count.ensures.counted;
            short = subst (λ t. length t ≤ MAX_TEXT) (ap (λ (t : TraceText). t.text) ended) c.in_ok-end.ensures.short;
          });
    }
