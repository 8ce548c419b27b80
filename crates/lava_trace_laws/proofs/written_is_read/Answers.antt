use Rattle.lava_trace_laws.proofs.Round_laws as lemmas
use Rattle.lava_trace_laws.proofs.written_is_read.Goals as goal

pub returns : goal.returns
returns c = lemmas.written_is_read
