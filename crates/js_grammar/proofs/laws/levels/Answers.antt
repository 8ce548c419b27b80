use Rattle.js_grammar.proofs.Depth.{low, low_enough}
use Rattle.js_grammar.proofs.laws.levels.Goals as goal

pub returns-clause-low : goal.returns-clause-low
returns-clause-low c = low

pub returns-clause-enough : goal.returns-clause-enough
returns-clause-enough c = low_enough
