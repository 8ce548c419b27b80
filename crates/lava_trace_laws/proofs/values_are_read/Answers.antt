use Rattle.lava_trace_laws.proofs.Value_laws.{value_reads}
use Rattle.lava_trace_laws.proofs.values_are_read.Goals as goal

pub returns : goal.returns
returns c = value_reads
