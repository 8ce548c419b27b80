use Rattle.js_program_laws.proofs.Early.{formed_sound}
use Rattle.js_program_laws.proofs.laws.formed_trees_are_sound.Goals as goal

pub returns : goal.returns
returns c = λ m x h. formed_sound m x h
