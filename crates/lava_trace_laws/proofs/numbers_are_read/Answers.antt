use Rattle.lava_trace_laws.proofs.Number_laws.{number_of_decimal}
use Rattle.lava_trace_laws.proofs.numbers_are_read.Goals as goal

pub returns : goal.returns
returns c = λ n rest h e. number_of_decimal n rest h e
