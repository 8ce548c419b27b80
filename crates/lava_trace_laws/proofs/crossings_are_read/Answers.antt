use Rattle.lava_trace_laws.proofs.Course_laws.{line_is_read}
use Rattle.lava_trace_laws.proofs.crossings_are_read.Goals as goal

pub returns : goal.returns
returns c = line_is_read
