use Rattle.js_program_laws.proofs.Programs.{formed}
use Rattle.js_program_laws.proofs.laws.trees_are_formed.Goals as goal

pub returns : goal.returns
returns c = formed c.semicolons.ensures.read c.semicolons.ensures.same c.levels.ensures.low
