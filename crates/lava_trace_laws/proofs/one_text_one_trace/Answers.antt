use Rattle.lava_trace_laws.proofs.Round_laws.{one_text}
use Rattle.lava_trace_laws.proofs.one_text_one_trace.Goals as goal

pub returns : goal.returns
returns c = one_text
