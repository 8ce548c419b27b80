-- At the end nothing but what stands behind the last LF is left.
use Rattle.std.proofs.Common.{◌≡◌, MatchResult, ap, subst, sym, ◌∙◌}
use Rattle.lava_trace.specs.Traces.{A_trace, Tells, end_reading}
use Rattle.lava_trace.proofs.Trace_laws.{no_line}
use Rattle.lava_trace.proofs.trace.read_trace.Goals as goal

pub returns : goal.returns
returns c =
    subst (λ r. MatchResult c.at_the_end.result (λ t. r ≡ A_trace t) (λ e. Tells r e))
    (ap (end_reading c.loop-end.reader c.loop-end.line) c.is_empty.ensures
    ∙ sym (no_line c.loop-end.reader c.loop-end.line c.loop-end.left.now (sym c.in_default.ensures.place)) ∙ c.loop-end.invariant)
    c.at_the_end.ensures
