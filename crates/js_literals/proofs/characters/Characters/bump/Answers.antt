use Rattle.std.proofs.Common.{rules}
use Rattle.std.specs.Str.Iter.{chars_rest}
use Rattle.js_literals.proofs.Characters_laws.{next_rest}
use Rattle.js_literals.proofs.characters.Characters.bump.Goals as goal

pub returns-clause-rest : goal.returns-clause-rest
returns-clause-rest c = next_rest chars_rest c.next.result c.self.inside.rest c.next.new.self c.args.self.now (search rules) (cc) c.next.ensures.steps.0
