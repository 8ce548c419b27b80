use Rattle.lava_trace_laws.proofs.First_laws.{first_is_lawful}
use Rattle.lava_trace_laws.proofs.first_trace_is_lawful.Goals as goal

pub returns : goal.returns
returns c = first_is_lawful
