use Rattle.js_program_laws.proofs.Programs.{program_sound}
use Rattle.js_program_laws.proofs.laws.programs_are_sound.Goals as goal

pub returns : goal.returns
returns c = program_sound c.trees_are_formed.ensures c.formed_trees_are_sound.ensures
