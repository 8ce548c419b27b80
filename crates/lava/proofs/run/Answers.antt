use Rattle.std.proofs.Common.{map, string_bytes}
use Rattle.lava.proofs.run.Goals as goal

pub returns-clause-answers : goal.returns-clause-answers
returns-clause-answers g c =
    record { words = map string_bytes c.as_slice.result.now; folder = _; new_folder = _; input = _; new_input = _; clock = _; new_clock = _; answers = c.lava-status.ensures.answers }
