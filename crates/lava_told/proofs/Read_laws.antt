-- What is written is read as the trace that is told, and a lawful trace tells itself.
use Rattle.std.proofs.Common.{◌≡◌, ap, ◌∙◌, sym}
use Rattle.lava_trace.specs.Traces.{A_trace, reading_of}
use Rattle.lava_trace.specs.declared.line.Trace.{Trace}
use Rattle.lava_trace_laws.specs.Written.{IsLawful, text_of}
use Rattle.lava_trace_laws.proofs.Round_laws.{one_text, written_is_read}
use Rattle.lava_told.specs.Told.{MayBeTold, told}
use Rattle.lava_told.proofs.Lawful_laws.{lawful_may_be_told}
use Rattle.lava_told.proofs.Told_laws.{told_has_the_text, told_is_lawful}

pub told_is_read : (t : Trace) → MayBeTold t → reading_of (text_of t) ≡ A_trace (told t)
told_is_read t h = ap reading_of (sym (told_has_the_text t)) ∙ written_is_read (told t) (told_is_lawful t h)

pub lawful_tells_itself : (t : Trace) → IsLawful t → told t ≡ t
lawful_tells_itself t h = one_text (told t) t (told_is_lawful t (lawful_may_be_told t h)) h (told_has_the_text t)
