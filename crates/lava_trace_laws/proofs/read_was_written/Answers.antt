use Rattle.lava_trace_laws.proofs.Joined_laws as lemmas
use Rattle.lava_trace_laws.proofs.read_was_written.Goals as goal

pub returns : goal.returns
returns c = lemmas.read_was_written
